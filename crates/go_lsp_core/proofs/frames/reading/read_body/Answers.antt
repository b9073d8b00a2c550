use Rattle.std.proofs.Common.{◌≡◌, ◌∙◌, None, take, sym, ap, subst}
use Rattle.go_lsp_core.specs.declared.frames.reading.FrameEnd.TheVariants.{NoLength}
use Rattle.go_lsp_core.specs.frames.Frames.{IsEnd, Took, content_length, stream}
use Rattle.go_lsp_core.proofs.FramesEnds.{head_small, head_within}
use Rattle.go_lsp_core.proofs.FramesStreams.{no_length}
use Rattle.go_lsp_core.proofs.frames.reading.read_body.Goals as goal

pub first-requires : goal.first-requires
first-requires g c = head_within c.args.input.now c.args.head c.requires

pub read_rest-requires-clause-small : goal.read_rest-requires-clause-small
read_rest-requires-clause-small g c = head_small c.args.input.now c.args.head c.requires

pub pass-requires : goal.pass-requires
pass-requires g c = head_within c.args.input.now c.args.head c.requires

pub returns-in_default-clause-err : goal.returns-in_default-clause-err
returns-in_default-clause-err g c =
    let a = g.R.Read.remaining c.args.reader.now in
    let p = c.args.input.now in
    let none : content_length (take c.args.head p) ≡ None = ap content_length (sym c.first.ensures) ∙ (sym c.content_length.ensures ∙ c.in_default.is) in
    subst (λ r. Took (stream p a) (stream r a) (IsEnd NoLength)) (sym c.pass.ensures) (no_length a p c.args.head c.requires none)
