use Rattle.std.proofs.Common.{sym, ◌∙◌}
use Rattle.go_tree_nodes.specs.Shapes.{file_of}
use Rattle.go_tree_core.specs.Occurrences.{file_occs}
use Rattle.go_tree_core.proofs.Counting.{begins_at}
use Rattle.go_tree_core.proofs.renaming.start_of.Goals as goal

pub returns : goal.returns
returns c =
    let same = sym c.in-Begins.is ∙ c.visit_file.ensures ∙ begins_at c.args.at.0 (file_occs (file_of c.args.file.now)) c.requires in
    cc

pub unreachable-requires : goal.unreachable-requires
unreachable-requires c =
    let same = sym c.in-Left.is ∙ c.visit_file.ensures ∙ begins_at c.args.at.0 (file_occs (file_of c.args.file.now)) c.requires in
    cc
