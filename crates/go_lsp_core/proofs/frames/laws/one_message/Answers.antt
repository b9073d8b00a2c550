use Rattle.go_lsp_core.proofs.FramesAlone.{one_message}
use Rattle.go_lsp_core.proofs.frames.laws.one_message.Goals as goal

pub returns : goal.returns
returns c = one_message
