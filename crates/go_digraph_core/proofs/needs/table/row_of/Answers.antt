use Rattle.std.proofs.Common.{sym, ◌∙◌}
use Rattle.go_digraph_core.proofs.NeedsReading.{row_read}
use Rattle.go_digraph_core.proofs.needs.table.row_of.Goals as goal

pub returns : goal.returns
returns c = c.deref.ensures.value ∙ sym (row_read c.args.needs.now c.args.node c.index-needs-node.result c.requires c.index-needs-node.is)
