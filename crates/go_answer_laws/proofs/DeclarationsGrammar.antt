-- The trees of files that are read respect the rules of the grammar.
use Rattle.std.proofs.Common.{ℕ, List, [], ◌∷◌, All, map}
use Rattle.std.specs.Prelude.{Result, Ok, Err}
use Rattle.std.specs.List.{AllByRecursion}
use Rattle.std.proofs.lemmas.List.Elements.{All-from_recursion, recursion_from_All}
use Rattle.go_tree_nodes.specs.Trees.{FileTree}
use Rattle.go_tree_nodes.specs.Rules.{Wf_file}
use Rattle.go_graph_core.specs.parse_core.declared.error.SynFault.{SynFault}
use Rattle.go_graph_core.specs.Packages.{tree_shown, trees_of}
use Rattle.go_graph_core.specs.Sources.{SourceModel, source, IsContent, IsRead}

each_keeps_rules : (ss : List SourceModel) → AllByRecursion IsRead ss → AllByRecursion Wf_file (map tree_shown (trees_of ss))
each_keeps_rules [] h = tt
each_keeps_rules (s ∷ ss) h = by s.name s.text s.content h.0 (each_keeps_rules ss h.1)
  where
    by : (name text : List ℕ) (r : Result FileTree SynFault) → IsContent text r → AllByRecursion Wf_file (map tree_shown (trees_of ss)) → AllByRecursion Wf_file (map tree_shown (trees_of (source name text r ∷ ss)))
    by name text (Ok f) one rest = (one.found.tree.wf, rest)
    by name text (Err e) one rest = rest

pub all_keep_rules : (ss : List SourceModel) → All IsRead ss → All Wf_file (map tree_shown (trees_of ss))
all_keep_rules ss h = All-from_recursion Wf_file (map tree_shown (trees_of ss)) (each_keeps_rules ss (recursion_from_All IsRead ss h))
