use Rattle.go_lsp_core.specs.frames.Frames.{Took, stream}
use Rattle.go_lsp_core.proofs.FramesStreams.{IsToPass}
use Rattle.go_lsp_core.proofs.frames.reading.pass_over.Given as goal

abbrev pub invariant-loop-turn : goal.invariant-loop-turn
invariant-loop-turn g l = Took (stream l.fn.input (g.R.Read.remaining l.fn.reader)) (stream l.input (g.R.Read.remaining l.reader)) (IsToPass l.count l.left)
