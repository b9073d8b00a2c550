use Rattle.std.proofs.Common.{◌≡◌, ◌-◌, length, refl, subst, ap, sym, ◌∙◌}
use Rattle.std.specs.Prelude.{Some, None, slice_get}
use Rattle.std.proofs.lemmas.Option.{slice_get_read, slice_get_past}
use Rattle.go_value_core.proofs.Owning.{at_first, at_next}
use Rattle.go_value_core.proofs.specs.expr_at.Goals as goal

pub returns-then-at-eq0 : goal.returns-then-at-eq0
returns-then-at-eq0 c = at_first c.args.exprs.now.first c.args.exprs.now.more.items c.args.at c.if-at-eq0.true

pub returns-in-Some : goal.returns-in-Some
returns-in-Some c =
    let xs = c.deref.result.now in
    let read = slice_get_read xs (length xs) (c.args.at - 1) c.in-Some.next.now refl c.in-Some.ensures.lookup.3.0 c.in-Some.ensures.lookup.1 in
    at_next c.args.exprs.now.first c.args.exprs.now.more.items c.args.at (Some c.in-Some.next.now) c.if-at-eq0.false
    (subst (λ l. slice_get l (c.args.at - 1) ≡ Some c.in-Some.next.now) c.deref.ensures.value read)

pub returns-in-None : goal.returns-in-None
returns-in-None c =
    let xs = c.deref.result.now in
    let past = slice_get_past xs (c.args.at - 1) c.in-None.ensures.lookup.3 in
    at_next c.args.exprs.now.first c.args.exprs.now.more.items c.args.at None c.if-at-eq0.false
    (subst (λ l. slice_get l (c.args.at - 1) ≡ None) c.deref.ensures.value past)
