-- Types that begin one behind another are found where they begin.
use Rattle.std.proofs.Common.{◌≡◌, ℕ, ◌+◌, ◌≤◌, nat_eq, true, false, cond, List, [], ◌∷◌, Some, Contains, ◌⊎◌, inl, inr, refl, ap, subst, ◌∙◌, arith}
use Rattle.std.proofs.lemmas.Bool.{eq-eqb, ne_eqb}
use Rattle.std.proofs.lemmas.List.Elements.{Contains-append_cases, Contains-push_cases}
use Rattle.go_tree_nodes.specs.Trees.{TypeTree}
use Rattle.go_term_core.specs.decl_core.declared.keys.DeclKey.{DeclKey}
use Rattle.go_term_core.specs.declared.settling.kind.Kind.{Kind}
use Rattle.go_typexpr_core.specs.written.Written.{InFile, Meaning}
use Rattle.go_inline_core.specs.Types.{inline_at}
use Rattle.go_tree_nodes.specs.Starts.{type_start}
use Rattle.go_inline_core.specs.Inline.{inline_of, inlines}
use Rattle.go_inline_core.proofs.Spread.{AreSpread}

differ : (n m : ℕ) → (n ≡ m → ⊥) → nat_eq n m ≡ false
differ n m h = ne_eqb n m h

module _ (kind : DeclKey → Kind) (f : InFile) (mean : Meaning) where
  starts_before : (ts : List TypeTree) (low high : ℕ) (t : TypeTree) → AreSpread low ts high → Contains ts t → low ≤ type_start t
  starts_before [] low high t h there = absurd (omega (arith, there.1))
  starts_before (u ∷ ts) low high t h there = by (Contains-append_cases (u ∷ []) ts t there) (starts_before ts (type_start u + 1) high t h.2)
    where
      by : Contains (u ∷ []) t ⊎ Contains ts t → (Contains ts t → type_start u + 1 ≤ type_start t) → low ≤ type_start t
      by (inl one) rest = at_one (Contains-push_cases [] u t one)
        where
          at_one : Contains [] t ⊎ (u ≡ t) → low ≤ type_start t
          at_one (inl k) = absurd (omega (arith, k.1))
          at_one (inr e) = subst (λ v. low ≤ type_start v) e h.1
      by (inr more) rest = omega (arith, rest more, h.1)

  -- each of those is found at its first byte
  pub found_spread : (ts : List TypeTree) (low high : ℕ) (t : TypeTree) → AreSpread low ts high → Contains ts t → inline_at (inlines kind f mean ts) (type_start t) ≡ Some (inline_of kind f mean t)
  found_spread [] low high t h there = absurd (omega (arith, there.1))
  found_spread (u ∷ ts) low high t h there = by (Contains-append_cases (u ∷ []) ts t there) (found_spread ts (type_start u + 1) high t h.2)
    where
      same : (n : ℕ) → nat_eq n n ≡ true
      same n = eq-eqb n n refl

      by : Contains (u ∷ []) t ⊎ Contains ts t → (Contains ts t → inline_at (inlines kind f mean ts) (type_start t) ≡ Some (inline_of kind f mean t)) → inline_at (inlines kind f mean (u ∷ ts)) (type_start t) ≡ Some (inline_of kind f mean t)
      by (inl one) rest = at_one (Contains-push_cases [] u t one)
        where
          at_one : Contains [] t ⊎ (u ≡ t) → inline_at (inlines kind f mean (u ∷ ts)) (type_start t) ≡ Some (inline_of kind f mean t)
          at_one (inl k) = absurd (omega (arith, k.1))
          at_one (inr e) = subst (λ v. inline_at (inlines kind f mean (u ∷ ts)) (type_start v) ≡ Some (inline_of kind f mean v)) e (ap (λ b. cond b (Some (inline_of kind f mean u)) (inline_at (inlines kind f mean ts) (type_start u))) (same (type_start u)))
      by (inr more) rest =
          ap (λ b. cond b (Some (inline_of kind f mean u)) (inline_at (inlines kind f mean ts) (type_start t))) (differ (type_start t) (type_start u) (λ e. omega (arith, starts_before ts (type_start u + 1) high t h.2 more, e))) ∙ rest more
