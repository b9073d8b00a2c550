use Rattle.go_lsp_core.proofs.EditsKeeping.{keeps_order}
use Rattle.go_lsp_core.proofs.edits.laws.edits_keep_order.Goals as goal

pub returns : goal.returns
returns c = keeps_order
