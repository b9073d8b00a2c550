use Rattle.std.proofs.Common.{Some, sym, ap, ◌∙◌}
use Rattle.std.proofs.lemmas.Option.{slice_get-get_or, slice_get_past}
use Rattle.go_submit_core.proofs.piece.batch_at.Goals as goal

pub returns-in-Some : goal.returns-in-Some
returns-in-Some c =
    let found = c.in-Some.ensures.lookup in
    sym (slice_get-get_or c.args.batches.now c.args.place c.in-Some.handle.now found.3.0 ∙ ap Some (sym found.1) ∙ ap Some (sym c.batch.ensures))

pub returns-in-None : goal.returns-in-None
returns-in-None c = sym (slice_get_past c.args.batches.now c.args.place c.in-None.ensures.lookup.3)
