use Rattle.std.proofs.Common.{sym, ◌∙◌}
use Rattle.go_lsp_core.proofs.FramesEnds.{begins_short}
use Rattle.go_lsp_core.proofs.frames.heads.begins_with.Goals as goal

pub returns-then-at-bytes : goal.returns-then-at-bytes
returns-then-at-bytes c = sym (begins_short c.args.name.now c.args.bytes.now c.loop-at.at c.loop-at-test.true c.if-at-bytes.true) ∙ c.loop-at.invariant
