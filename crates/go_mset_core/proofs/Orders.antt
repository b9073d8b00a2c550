-- The order of identifiers.
use Rattle.std.proofs.Common.{◌≡◌, ℕ, List, refl, sym, ap, ◌∙◌, subst, ◌⊎◌, inl, inr}
use Rattle.std.specs.declared.cmp.Ordering.{Ordering}
use Rattle.std.specs.declared.cmp.Ordering.TheVariants.{Less, Equal, Greater}
use Rattle.std.specs.Ordering.{nat_cmp, ordering_reverse, is_eq}
use Rattle.std.specs.Cmp.Lexicographic.{slice_cmp}
use Rattle.std.proofs.lemmas.Cmp.{nat_list_cmp_total, tied_itself}
use Rattle.std.proofs.lemmas.Map.Text.{is_eq-slice_cmp}
use Rattle.std.proofs.lemmas.Slice.Eq.{bytes_eq-Decides}
use Rattle.go_select_core.specs.Selections.{IsIdBefore}

abbrev pub by_bytes : List ℕ → List ℕ → Ordering
by_bytes = slice_cmp nat_cmp

pub never_before : (a : List ℕ) → by_bytes a a ≡ Less → ⊥
never_before a h = let e = tied_itself nat_list_cmp_total a in let z : Less ≡ Equal = sym h ∙ e in (cc)

pub before_onward : (a b c : List ℕ) → by_bytes a b ≡ Less → by_bytes b c ≡ Less → by_bytes a c ≡ Less
before_onward a b c h k = nat_list_cmp_total.trans a b c h k

-- one of three cases
pub compared : (a b : List ℕ) → (by_bytes a b ≡ Less) ⊎ (a ≡ b) ⊎ (by_bytes b a ≡ Less)
compared a b = by (by_bytes a b) refl
  where
    by : (o : Ordering) → by_bytes a b ≡ o → (by_bytes a b ≡ Less) ⊎ (a ≡ b) ⊎ (by_bytes b a ≡ Less)
    by Less e = inl e
    by Equal e = inr (inl ((bytes_eq-Decides a b).0 (sym (is_eq-slice_cmp a b) ∙ ap is_eq e)))
    by Greater e = inr (inr (nat_list_cmp_total.antisymm b a ∙ ap ordering_reverse e))

pub id_never : (a p : List ℕ) → IsIdBefore a p a p → ⊥
id_never a p (inl h) = never_before a h
id_never a p (inr h) = never_before p h.2

pub id_onward : (a p b q c r : List ℕ) → IsIdBefore a p b q → IsIdBefore b q c r → IsIdBefore a p c r
id_onward a p b q c r (inl h) (inl k) = inl (before_onward a b c h k)
id_onward a p b q c r (inl h) (inr k) = inl (subst (λ x. by_bytes a x ≡ Less) k.0 h)
id_onward a p b q c r (inr h) (inl k) = inl (subst (λ x. by_bytes x c ≡ Less) (sym h.0) k)
id_onward a p b q c r (inr h) (inr k) = inr (h.0 ∙ k.0, h.1, before_onward p q r h.2 k.2)
