use Rattle.go_lsp_core.proofs.FramesBack.{comes_back}
use Rattle.go_lsp_core.proofs.frames.laws.comes_back.Goals as goal

pub returns : goal.returns
returns c = comes_back
