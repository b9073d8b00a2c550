use Rattle.std.proofs.lemmas.Result.{IfErr-weaker, IfOk-weaker}
use Rattle.go_lsp_core.specs.frames.Frames.{IsEnd, IsMessage}
use Rattle.go_lsp_core.proofs.FramesStreams.{took_kept}
use Rattle.go_lsp_core.proofs.frames.reading.read_message.Goals as goal

pub returns-in-Ok-clause-ok : goal.returns-in-Ok-clause-ok
returns-in-Ok-clause-ok g c = IfOk-weaker c.read_body.result _ _ (λ m h. took_kept (IsMessage m.items) _ _ _ c.in-Ok.ensures.kept h) c.read_body.ensures.ok

pub returns-in-Ok-clause-err : goal.returns-in-Ok-clause-err
returns-in-Ok-clause-err g c = IfErr-weaker c.read_body.result _ _ (λ end h. took_kept (IsEnd end) _ _ _ c.in-Ok.ensures.kept h) c.read_body.ensures.err
