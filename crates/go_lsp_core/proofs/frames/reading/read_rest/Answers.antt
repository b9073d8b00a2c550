use Rattle.std.proofs.Common.{subst, sym}
use Rattle.std.proofs.KnownBytes.{Keeps-refl}
use Rattle.std.proofs.lemmas.Result.{IfErr-weaker, IfOk-weaker}
use Rattle.go_lsp_core.proofs.FramesStreams.{any_left, memory, message_read, short_of}
use Rattle.go_lsp_core.specs.frames.Frames.{IsEnd, Took, stream}
use Rattle.go_lsp_core.proofs.frames.reading.read_rest.Goals as goal

pub returns-in-Ok-clause-ok : goal.returns-in-Ok-clause-ok
returns-in-Ok-clause-ok g c =
    let a = g.R.Read.remaining c.args.reader.now in
    let p = c.args.input.now in
    IfOk-weaker c.taken.result _ _
    (λ m h. message_read a a (g.R.Read.remaining c.fill_up.new.reader) p p c.fill_up.new.input m.items _ c.args.head c.args.len (Keeps-refl (stream p a)) c.requires.head c.requires.length c.requires.short
    c.in-Ok.ensures.kept c.in-Ok.ensures.enough h.0 h.1) c.taken.ensures.ok

pub returns-in-Ok-clause-err : goal.returns-in-Ok-clause-err
returns-in-Ok-clause-err g c =
    let a = g.R.Read.remaining c.args.reader.now in
    let b = g.R.Read.remaining c.fill_up.new.reader in
    let p = c.args.input.now in
    IfErr-weaker c.taken.result _ _
    (λ end e. subst (λ f. Took (stream p a) (stream c.taken.new.input b) (IsEnd f)) (sym e)
    (memory (stream p a) (stream c.fill_up.new.input b) c.in-Ok.ensures.kept (stream c.taken.new.input b) (any_left c.fill_up.new.input c.taken.new.input b))) c.taken.ensures.err

pub returns-in-Err-clause-err : goal.returns-in-Err-clause-err
returns-in-Err-clause-err g c =
    let a = g.R.Read.remaining c.args.reader.now in
    let p = c.args.input.now in
    short_of c.in-Err.end a a _ p p c.args.head c.args.len (Keeps-refl (stream p a)) c.requires.head c.requires.length c.in-Err.ensures.err
