use Rattle.std.proofs.Common.{◌≡◌, ◌∙◌, ap, subst, Some, get_or, slice_get}
use Rattle.std.specs.Option.{option_map}
use Rattle.go_tree_nodes.specs.Shapes.{file_of}
use Rattle.go_graph_core.specs.Packages.{IsAssembled, IsTreeAt, tree_shown, trees_of}
use Rattle.go_graph_core.proofs.Assemblies.{tree_there}
use Rattle.go_graph_core.proofs.assembly.Package.tree.Goals as goal

there : (c : goal.In-Ok) → IsTreeAt c.args.self.now.1 c.args.file (file_of c.in-Ok.tree.now) × (option_map tree_shown (slice_get (trees_of c.args.self.now.1) c.args.file) ≡ Some (file_of c.in-Ok.tree.now))
there c =
    let same = c.files-files.ensures.files ∙ ap (λ p. p.1) c.self.view_is in
    let well : IsAssembled c.args.self.now.1 = subst (λ p. IsAssembled p.1) c.self.view_is c.self.invariant in
    let is = subst (λ l. c.index-files-file.result ≡ get_or l c.args.file c.index-files-file.result) same c.index-files-file.is in
    tree_there c.args.self.now.1 c.args.file c.index-files-file.result (file_of c.in-Ok.tree.now) well c.requires is c.in-Ok.ensures.value

pub returns-clause-tree : goal.returns-clause-tree
returns-clause-tree c = (there c).1

pub returns-clause-content : goal.returns-clause-content
returns-clause-content c = (there c).0
