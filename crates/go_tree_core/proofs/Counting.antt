-- Where the occurrence of a number begins.
use Rattle.std.proofs.Common.{◌≡◌, ℕ, zero, suc, ◌-◌, ◌<◌, false, List, [], ◌∷◌, length, refl, ap, ◌∙◌, arith, if◌then◌else◌, nat_eq}
use Rattle.std.specs.List.{fold}
use Rattle.std.proofs.lemmas.Bool.Decides.{nat_tests}
use Rattle.go_tree_core.specs.declared.occurrence.Occ.{Occ}
use Rattle.go_tree_core.specs.declared.renaming.Counted.TheVariants.{Begins, Left}
use Rattle.go_tree_core.specs.Renaming.{occ_start}
use Rattle.go_tree_core.specs.mirrors.Counting.{counted_next}

begins_stays : (s : ℕ) (os : List Occ) → fold counted_next (Begins s) os ≡ Begins s
begins_stays s [] = refl
begins_stays s (o ∷ os) = begins_stays s os

not_none : (i : ℕ) → nat_eq (suc i) 0 ≡ false
not_none i = grind (arith, nat_tests)

one_less : (i : ℕ) (o : Occ) → counted_next (Left (suc i)) o ≡ Left i
one_less i o = ap (λ b. if b then Begins o.span.start else Left (suc i - 1)) (not_none i) ∙ ap Left (omega arith)

pub begins_at : (i : ℕ) (os : List Occ) → i < length os → fold counted_next (Left i) os ≡ Begins (occ_start os i)
begins_at i [] h = absurd (omega arith)
begins_at zero (o ∷ os) h = begins_stays o.span.start os
begins_at (suc i) (o ∷ os) h = ap (λ c. fold counted_next c os) (one_less i o) ∙ begins_at i os (omega arith)
