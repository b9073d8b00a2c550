use Rattle.go_lsp_core.proofs.FramesStreams.{passed}
use Rattle.go_lsp_core.proofs.frames.reading.pass_some.Goals as goal

pub returns : goal.returns
returns c = passed c.args.input.now c.pass.new.self c.args.count c.min-there.result c.count_of.result c.count_of.ensures c.min-there.ensures c.pass.ensures
