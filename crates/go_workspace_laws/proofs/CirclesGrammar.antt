-- The trees of the files of a workspace of which each file is read respect the rules of the grammar.
use Rattle.std.proofs.Common.{ℕ, List, [], ◌∷◌, All, Some, map, ◌≡◌}
use Rattle.std.specs.Prelude.{Result, Ok, Err, slice_get}
use Rattle.std.specs.List.{AllByRecursion}
use Rattle.std.proofs.lemmas.List.Elements.{recursion_from_All}
use Rattle.go_tree_nodes.specs.Trees.{FileTree}
use Rattle.go_tree_nodes.specs.Rules.{Wf_file}
use Rattle.go_graph_core.specs.parse_core.declared.error.SynFault.{SynFault}
use Rattle.go_graph_core.specs.Packages.{tree_shown, trees_of}
use Rattle.go_graph_core.specs.Sources.{SourceModel, source, IsContent, IsRead}
use Rattle.go_graph_core.specs.Workspaces.{AreAllRead, PackageModel}
use Rattle.go_emit_core.specs.package_core.PreparePackages.{trees_in}
use Rattle.go_snap_core.proofs.Faulty.{read_there}

each_keeps_rules : (ss : List SourceModel) → AllByRecursion IsRead ss → AllByRecursion Wf_file (map tree_shown (trees_of ss))
each_keeps_rules [] h = tt
each_keeps_rules (s ∷ ss) h = by s.name s.text s.content h.0 (each_keeps_rules ss h.1)
  where
    by : (name text : List ℕ) (r : Result FileTree SynFault) → IsContent text r → AllByRecursion Wf_file (map tree_shown (trees_of ss)) → AllByRecursion Wf_file (map tree_shown (trees_of (source name text r ∷ ss)))
    by name text (Ok f) one rest = (one.found.tree.wf, rest)
    by name text (Err e) one rest = rest

pub trees_keep_rules : (ps : List PackageModel) (n : ℕ) (p : PackageModel) → All AreAllRead ps → slice_get ps n ≡ Some p → AllByRecursion Wf_file (trees_in p)
trees_keep_rules ps n p read at = each_keeps_rules p.1 (recursion_from_All IsRead p.1 (read_there ps n p read at))
