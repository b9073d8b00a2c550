use Rattle.std.proofs.Common.{◌≡◌, drop, subst}
use Rattle.go_lsp_core.specs.frames.Frames.{Took, stream}
use Rattle.go_lsp_core.specs.frames.mirrors.Reading.{IsUnread}
use Rattle.go_lsp_core.proofs.FramesEnds.{head_within}
use Rattle.go_lsp_core.proofs.FramesStreams.{long_body, long_unread}
use Rattle.go_lsp_core.proofs.frames.reading.pass_long.Goals as goal

pub pass-requires : goal.pass-requires
pass-requires g c = head_within c.args.input.now c.args.head c.requires.head

pub returns-in-Ok : goal.returns-in-Ok
returns-in-Ok g c =
    let a = g.R.Read.remaining c.args.reader.now in
    let b = g.R.Read.remaining c.pass_over.new.reader in
    let q = c.pass_over.new.input in
    long_body a b c.args.input.now q c.args.head c.args.len c.requires.head c.requires.length c.requires.long
    (subst (λ r. Took (stream r a) (stream q b) (λ all left. left ≡ drop c.args.len all)) c.pass.ensures c.in-Ok.ensures.ok)

pub returns-in-Err : goal.returns-in-Err
returns-in-Err g c =
    let a = g.R.Read.remaining c.args.reader.now in
    let b = g.R.Read.remaining c.pass_over.new.reader in
    let q = c.pass_over.new.input in
    long_unread c.in-Err.end a b c.args.input.now q c.args.head c.args.len c.requires.head c.requires.length c.requires.long
    (subst (λ r. IsUnread c.in-Err.end (stream r a) (stream q b)) c.pass.ensures c.in-Err.ensures.err)
