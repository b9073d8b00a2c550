use Rattle.go_lsp_core.specs.frames.Frames.{stream}
use Rattle.go_lsp_core.proofs.FramesStreams.{IsToPass, some_passed, took_on}
use Rattle.go_lsp_core.proofs.frames.reading.pass_over.Goals as goal

pub loop-turn-preserved : goal.loop-turn-preserved
loop-turn-preserved g c =
    let a = stream c.args.input.now (g.R.Read.remaining c.args.reader.now) in
    let b = g.R.Read.remaining c.loop-turn.reader in
    took_on (IsToPass c.args.count c.pass_some-left.result) a (stream c.pass_some-left.new.input b) (stream c.fill.new.self (g.R.Read.remaining c.fill.new.reader))
    (some_passed a b c.loop-turn.input c.pass_some-left.new.input c.args.count c.loop-turn.left c.pass_some-left.result c.loop-turn.invariant c.pass_some-left.ensures) c.in-Ok.ensures.kept
