use Rattle.std.proofs.Common.{sym, ◌∙◌}
use Rattle.go_stmt_core.proofs.PieceListing.{list_begins}
use Rattle.go_stmt_core.proofs.piece.starts.list_start.Goals as goal

pub returns : goal.returns
returns c = c.start.ensures ∙ sym (list_begins c.args.exprs.now.first c.args.exprs.now.more.items)
