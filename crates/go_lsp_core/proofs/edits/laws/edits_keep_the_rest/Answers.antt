use Rattle.go_lsp_core.proofs.EditsKeeping.{keeps_the_rest}
use Rattle.go_lsp_core.proofs.edits.laws.edits_keep_the_rest.Goals as goal

pub returns : goal.returns
returns c = keeps_the_rest
