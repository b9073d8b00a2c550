use Rattle.std.specs.Io.KnownBytes.{Keeps}
use Rattle.go_lsp_core.specs.frames.Frames.{stream}
use Rattle.go_lsp_core.proofs.frames.reading.fill_up.Given as goal

abbrev pub invariant-loop-turn : goal.invariant-loop-turn
invariant-loop-turn g l = Keeps (stream l.fn.input (g.R.Read.remaining l.fn.reader)) (stream l.input (g.R.Read.remaining l.reader))
