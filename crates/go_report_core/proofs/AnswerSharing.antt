-- Types under stars that are held.
use Rattle.std.proofs.Common.{◌≡◌, ◌↔◌, ℕ, zero, suc, ◌-◌, ◌<◌, Bool, true, false, IsTrue, refl, ap, ◌∙◌, arith}
use Rattle.std.specs.Bool.{OnTrue}
use Rattle.go_term_core.specs.Terms.{Term, PointerTo}
use Rattle.go_summary_core.specs.handle_core.Stars.{starred}

-- under no star
pub plain_held : (b : Bool) (n : ℕ) (t u : Term) → n ≡ 0 → (IsTrue b ↔ (t ≡ u)) → OnTrue b (t ≡ starred n u)
plain_held true zero t u z e = e.0 refl
plain_held true (suc n) t u z e = absurd (omega (arith, z))
plain_held false n t u z e = tt

-- a pointer type, under a star more
pub pointer_held : (b : Bool) (n : ℕ) (h t p : Term) → 0 < n → p ≡ PointerTo h → OnTrue b (h ≡ starred (n - 1) t) → OnTrue b (p ≡ starred n t)
pointer_held true zero h t p l e o = absurd (omega (arith, l))
pointer_held true (suc n) h t p l e o =
    let less : suc n - 1 ≡ n = omega arith in
    e ∙ ap PointerTo (o ∙ ap (λ (k : ℕ). starred k t) less)
pointer_held false n h t p l e o = tt
