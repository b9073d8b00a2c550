use Rattle.go_lsp_core.proofs.FramesAlone.{comes_first}
use Rattle.go_lsp_core.proofs.frames.laws.comes_first.Goals as goal

pub returns : goal.returns
returns c = comes_first
