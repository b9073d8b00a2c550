use Rattle.std.proofs.Common.{◌≡◌, ◌<◌, Some, length, slice_set, ap, ◌∙◌, arith}
use Rattle.std.proofs.lemmas.List.{length-map}
use Rattle.go_snap_core.specs.make.mirrors.Telling.{at_place}
use Rattle.go_snap_core.proofs.MakeTelling.{told_more}
use Rattle.go_snap_core.proofs.make.told.Told.add.Goals as goal

pub returns-clause-added : goal.returns-clause-added
returns-clause-added c =
    let all = c.self.inside.summaries in
    let places = c.self.inside.places.items in
    let n = c.args.number in
    let s = c.args.summary in
    let lt : n < length places = omega (arith, c.requires, ap length c.self.view_is, length-map places (at_place all)) in
    told_more all places c.self.invariant n s lt c.push.new.self (slice_set places n (Some c.len-place.result)) c.in_ok-push.ensures.added (ap (λ p. slice_set places n (Some p)) c.len-place.ensures.value)
    ∙ ap (λ l. slice_set l n (Some s)) c.self.view_is
