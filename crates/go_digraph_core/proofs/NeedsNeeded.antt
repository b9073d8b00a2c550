-- What leads back to itself has no bound, and there is one table of values.
use Rattle.std.proofs.Common.{◌≡◌, ℕ, zero, suc, ◌<◌, ◌≤◌, inl, inr, List, [], ◌∷◌, Option, Some, None, length, refl, sym, ◌∙◌, ap, subst, arith}
use Rattle.std.specs.List.{Contains}
use Rattle.std.proofs.lemmas.Bool.{cases_lt}
use Rattle.std.proofs.lemmas.List.{same_lists, get_or_default, get_or_past}
use Rattle.go_digraph_core.specs.needs.Needs.{needed, NeedsLead, EndsWithin, known_in, LooksAtNeeds, AreValues}
use Rattle.go_digraph_core.specs.needs.Laws.{EndlessNeverEnds, OneTableOfValues}

-- a bound and one more
pub within_more : (rows : List (List ℕ)) (n a : ℕ) → EndsWithin rows n a → EndsWithin rows (suc n) a
within_more rows zero a h = absurd h
within_more rows (suc n) a h = λ b has. within_more rows n b (h b has)

-- a bound holds further on
ends_along : (rows : List (List ℕ)) (n : ℕ) (path : List ℕ) (a b : ℕ) → NeedsLead rows a path b → EndsWithin rows n a → EndsWithin rows n b
ends_along rows n [] a b h w = subst (λ x. EndsWithin rows n x) h w
ends_along rows zero (c ∷ path) a b h w = absurd w
ends_along rows (suc n) (c ∷ path) a b h w = ends_along rows (suc n) path c b h.1 (within_more rows n c (w c h.0))

-- what leads back to itself does not end
around_never : (rows : List (List ℕ)) (n a c : ℕ) (path : List ℕ) → NeedsLead rows a (c ∷ path) a → EndsWithin rows n a → ⊥
around_never rows zero a c path h w = w
around_never rows (suc n) a c path h w = around_never rows n a c path h (ends_along rows n path c a h.1 (w c h.0))

pub endless_never : EndlessNeverEnds
endless_never rows n a e w = around_never rows n e.node e.first e.around e.back (ends_along rows n e.path a e.node e.leads w)

-- one table

module _ (V : Type 0) (rows : List (List ℕ)) (value : (ℕ → Option V) → ℕ → V) (local : LooksAtNeeds rows value) where
  past : (t : List (Option V)) (a : ℕ) → length t ≤ a → known_in t a ≡ None
  past t a h = get_or_past t a None h

  module _ (t u : List (Option V)) (at : AreValues V rows value t) (au : AreValues V rows value u) where
    with_both : (a : ℕ) (n : ℕ) → EndsWithin rows n a → ((b : ℕ) → Contains (needed rows a) b → known_in t b ≡ known_in u b) → a < length rows
        → (x y : Option V) → known_in t a ≡ x → known_in u a ≡ y → x ≡ y
    with_both a n w each lt (Some v) (Some z) et eu = ap Some (at.values a v et ∙ (local (known_in t) (known_in u) a each ∙ sym (au.values a z eu)))
    with_both a n w each lt None y et eu = absurd (endless_never rows n a (at.endless a lt et) w)
    with_both a n w each lt (Some v) None et eu = absurd (endless_never rows n a (au.endless a lt eu) w)

    same_ending : (n a : ℕ) → EndsWithin rows n a → known_in t a ≡ known_in u a
    same_ending zero a w = absurd w
    same_ending (suc n) a w = elim (cases_lt a (length rows)) [
      | inl lt ↦ with_both a (suc n) w (λ b has. same_ending n b (w b has)) lt (known_in t a) (known_in u a) refl refl
      | inr far ↦ past t a (omega (arith, far, at.as_many)) ∙ sym (past u a (omega (arith, far, au.as_many)))
    ]

    either : (a : ℕ) → a < length rows → (x y : Option V) → known_in t a ≡ x → known_in u a ≡ y → x ≡ y
    either a lt None None et eu = refl
    either a lt (Some v) y et eu = sym et ∙ (same_ending (length rows) a (at.ends a v et) ∙ eu)
    either a lt None (Some z) et eu = sym et ∙ (same_ending (length rows) a (au.ends a z eu) ∙ eu)

    pub one : t ≡ u
    one = same_lists t u (at.as_many ∙ sym au.as_many) (λ k d lt.
        let lt' : k < length rows = omega (arith, lt, at.as_many) in
        let lt'' : k < length u = omega (arith, lt', au.as_many) in
        get_or_default t k d None lt ∙ (either k lt' (known_in t k) (known_in u k) refl refl ∙ sym (get_or_default u k d None lt'')))

pub one_table : (V : Type 0) → OneTableOfValues V
one_table V rows value t u local at au = one V rows value local t u at au
