use Rattle.std.proofs.Common.{sym, take_all}
use Rattle.go_lsp_core.specs.frames.Frames.{most_head}
use Rattle.go_lsp_core.proofs.frames.heads.front.Goals as goal

pub returns-then-bytes-le-MOST_HEAD : goal.returns-then-bytes-le-MOST_HEAD
returns-then-bytes-le-MOST_HEAD c = sym (take_all most_head c.args.bytes.now c.if-bytes-le-MOST_HEAD.true)
