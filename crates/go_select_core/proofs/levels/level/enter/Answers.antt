use Rattle.std.proofs.Common.{◌≡◌, length, nat_eq, Some, if◌then◌else◌, sym, ap, ◌∙◌, refl, arith}
use Rattle.std.specs.Map.{lookup}
use Rattle.go_select_core.specs.levels.mirrors.Ways.{known, again, fresh}
use Rattle.go_select_core.proofs.LevelsWayLemmas.{ways_length, place_within, mark_ways}
use Rattle.go_select_core.proofs.levels.level.enter.Goals as goal

pub mark-requires : goal.mark-requires
mark-requires c = place_within _ _ _ _ c.in-Some.number c.in-Some-place.place c.requires.sized c.requires.right (sym c.place.ensures ∙ c.in-Some-place.is)

pub returns-then-place-begin-clause-entered : goal.returns-then-place-begin-clause-entered
returns-then-place-begin-clause-entered c =
    let m = mark_ways _ _ _ _ c.requires.sized c.mark.ensures in
    again c.in-Some.number c.in-Some-place.place m.0 c.in-Some.ensures (sym c.place.ensures ∙ c.in-Some-place.is) c.if-place-begin.true m.1 m.2 refl

pub returns-else-place-begin-clause-entered : goal.returns-else-place-begin-clause-entered
returns-else-place-begin-clause-entered c =
    known c.in-Some.number c.in-Some-place.place c.in-Some.ensures (sym c.place.ensures ∙ c.in-Some-place.is) c.if-place-begin.false refl refl

pub returns-clause-entered : goal.returns-clause-entered
returns-clause-entered c =
    let l : c.len.result ≡ length c.args.levels.now.types.items = omega (arith, c.len.ensures, c.args.levels.now.types.ok.0) in
    fresh c.in-Some.number c.in-Some.ensures (sym c.place.ensures ∙ c.in_default-place.is) c.in_ok-push-2.ensures.pushed
    (λ m.
    ap (lookup (nat_eq m)) c.in_ok-push-2.ensures.met
    ∙ (c.in_ok-add.ensures m ∙ ap (λ k. if nat_eq c.in-Some.number m then Some k else lookup (nat_eq m) c.args.levels.now.met) (l ∙ sym (ways_length _ _ c.requires.sized))))
