use Rattle.std.proofs.Common.{◌≡◌, ◌++◌, ◌∷◌, [], Some, sym, ap, ◌∙◌, slice_get, arith}
use Rattle.std.proofs.lemmas.Option.{slice_get_within}
use Rattle.go_hall_core.proofs.StampingAdding.{added, adds_moves}
use Rattle.go_hall_core.proofs.StampingBeginnings.{taken_on}
use Rattle.go_hall_core.proofs.stamping.stamp.Stamper.stamp.Goals as goal

pub compare_exchange-found-requires : goal.compare_exchange-found-requires
compare_exchange-found-requires g c =
    let h = c.self.invariant.0 in
    let b = c.self.invariant.1 in
    let offer = c.plain-offer.ensures in
    let pen = c.no_pen-pen.ensures in (
      ap (λ w. w.tracked) h,
      b ∙ sym (ap (λ w. w.book) h),
      pen.0 ∙ (b ∙ sym (ap (λ w. w.book) h)),
      offer.0,
      rw (ap (λ w. w.key) h, pen.1, offer.1, offer.3) (adds_moves c.self.inside.seen.log c.args.value.now c.self.inside.count),
    )

pub invariant_of-self-2 : goal.invariant_of-self-2
invariant_of-self-2 g c =
    let ce = c.compare_exchange-found.ensures in
    let log = c.compare_exchange-found.new.seen.log in
    let n = c.self.inside.count in
    let put : slice_get log n ≡ Some c.plain-offer.result.ask = added c.compare_exchange-found.result n log c.plain-offer.result.ask c.if-found-count.false ce.7 in
    (c.self.invariant.0, ce.0 ∙ c.self.invariant.1, omega (arith, slice_get_within log n c.plain-offer.result.ask put))

pub invariant_of-result : goal.invariant_of-result
invariant_of-result g c =
    let ce = c.compare_exchange-found.ensures in
    let log = c.compare_exchange-found.new.seen.log in
    let n = c.self.inside.count in
    let put : slice_get log n ≡ Some c.plain-offer.result.ask = added c.compare_exchange-found.result n log c.plain-offer.result.ask c.if-found-count.false ce.7 in (
      ap (λ s. slice_get s.log n) c.again.ensures ∙ put ∙ ap (λ x. Some x) (c.plain-offer.ensures.1 ∙ sym c.of.ensures),
      ap (λ s. s.book) c.again.ensures ∙ ce.0 ∙ c.self.invariant.1,
    )

pub returns : goal.returns
returns g c =
    let ce = c.compare_exchange-found.ensures in
    let log = c.compare_exchange-found.new.seen.log in
    let n = c.self.inside.count in
    let put : slice_get log n ≡ Some c.plain-offer.result.ask = added c.compare_exchange-found.result n log c.plain-offer.result.ask c.if-found-count.false ce.7 in
    let own : slice_get log n ≡ Some c.args.value.now = put ∙ ap (λ x. Some x) c.plain-offer.ensures.1 in
    (c.of.ensures, taken_on n c.self.inside.seen.log log c.args.value.now ce.6 c.self.invariant.2 own ∙ ap (λ l. l ++ c.args.value.now ∷ []) c.self.view_is)
