-- What faults settle to.
use Rattle.std.proofs.Common.{◌≡◌, inl, inr, ℕ, Bool, true, false, not, ◌||◌, List, [], ◌∷◌, ◌++◌, length, get_or, filter, refl, sym, ap, ◌∙◌, subst, arith}
use Rattle.std.specs.Prelude.{◌↔◌, AllPairs, Contains, is_ok}
use Rattle.std.specs.List.{dedup}
use Rattle.std.specs.List.Sorted.{IsSortedBy, IsPermutation, IsBinarySearchResult, IsSearchInRange}
use Rattle.std.specs.Ordering.{is_lt, is_eq, eq_by_cmp}
use Rattle.std.specs.declared.result.Result.{Result}
use Rattle.std.specs.declared.result.Result.TheVariants.{Ok, Err}
use Rattle.std.specs.declared.cmp.Ordering.{Ordering}
use Rattle.std.specs.declared.cmp.Ordering.TheVariants.{Less, Equal, Greater}
use Rattle.std.proofs.lemmas.Bool.{true≢false, cases_lt}
use Rattle.std.proofs.lemmas.List.Kept.{IsStrictlySortedBy-dedup, Contains-dedup, Contains-from_dedup}
use Rattle.std.proofs.lemmas.List.Sorted.{searchable_from_sorted, Contains-permutation, IsPermutation-sym}
use Rattle.go_term_core.proofs.Members.{In, contained_in, filter_in, in_at, in_contained, in_filter, ordered_same}
use Rattle.go_expr_core.specs.denote_core.declared.things.Outcome.{Outcome}
use Rattle.go_expr_core.specs.denote_core.declared.things.Outcome.TheVariants as outcomes
use Rattle.go_expr_core.specs.declared.things.Use.{Use}
use Rattle.go_expr_core.specs.local_core.declared.Fault.{Fault}
use Rattle.go_expr_core.proofs.Independence.{either}
use Rattle.go_report_core.specs.Faults.{fault_order, ComesBefore, IsSaid, IsSettled}
use Rattle.go_report_core.specs.Laws.{SettledFaultsAreOne}
use Rattle.go_report_core.specs.mirrors.Settling.{said_before, said_of, is_among, is_new, IsUnsaid}
use Rattle.go_report_core.proofs.Order.{order_total, order_equiv, order_same, fault_is, tie_same, tied, never_itself, before_onward, sorted_pairs}

-- among a list

pub or_true : (b : Bool) → (b || true) ≡ true
or_true true = refl
or_true false = refl

pub in_among : (xs : List Fault) (f : Fault) → In xs f → is_among xs f ≡ true
in_among [] f h = absurd h
in_among (g ∷ gs) f (inl e) = ap (λ o. is_eq o || is_among gs f) (ap (λ h. fault_order h f) e ∙ tied f)
in_among (g ∷ gs) f (inr h) = ap (λ b. is_eq (fault_order g f) || b) (in_among gs f h) ∙ or_true (is_eq (fault_order g f))

pub among_in : (xs : List Fault) (f : Fault) → is_among xs f ≡ true → In xs f
among_in [] f h = absurd (true≢false (sym h))
among_in (g ∷ gs) f h = by (fault_order g f) refl h (among_in gs f)
  where
    by : (o : Ordering) → fault_order g f ≡ o → (is_eq o || is_among gs f) ≡ true → (is_among gs f ≡ true → In gs f) → In (g ∷ gs) f
    by Less e h rest = inr (rest h)
    by Equal e h rest = inl (order_same g f e)
    by Greater e h rest = inr (rest h)

-- what a search finds

pub searched : (xs : List Fault) (f : Fault) (r : Result ℕ ℕ) → IsSortedBy (λ (a b : Fault). is_lt (fault_order a b)) xs → IsSearchInRange r (length xs) → IsBinarySearchResult (λ (g : Fault). fault_order g f) xs r
    → is_ok r ≡ is_among xs f
searched xs f (Ok n) sorted lt equal = sym (in_among xs f (subst (In xs) (order_same (get_or xs n f) f (equal f)) (in_at xs n f lt)))
searched xs f (Err k) sorted le parted = by (is_among xs f) refl
  where
    by : (b : Bool) → is_among xs f ≡ b → false ≡ is_among xs f
    by false e = sym e
    by true e =
        let at = contained_in xs f (among_in xs f e) in
        let here : fault_order (get_or xs at.0 f) f ≡ Equal = ap (λ g. fault_order g f) at.2 ∙ tied f in
        let split = parted (searchable_from_sorted order_total (λ (g : Fault). g) xs f sorted) in
        elim (cases_lt at.0 k) [
          | inl before ↦ (let no : Less ≡ Equal = sym (split.0 at.0 f (omega arith) before) ∙ here in cc)
          | inr behind ↦ (let no : Greater ≡ Equal = sym (split.1 at.0 f behind at.1) ∙ here in cc)
        ]

-- what outcomes say

module _ {D P : Type 0} where
  abbrev refused_by : Fault → Outcome D P
  refused_by g = outcomes.Refused g.rule

  pub among_said : (uses : List (Use D P)) (f : Fault) → is_among (said_of uses) f ≡ true → IsSaid uses f
  among_said [] f h = absurd (true≢false (sym h))
  among_said (u ∷ us) f h = by u.outcome refl h (among_said us f)
    where
      by : (o : Outcome D P) → u.outcome ≡ o → is_among (said_before u.offset o (said_of us)) f ≡ true → (is_among (said_of us) f ≡ true → IsSaid us f) → IsSaid (u ∷ us) f
      by (outcomes.Declared d) e h rest = inr (rest h)
      by (outcomes.Selected d p) e h rest = inr (rest h)
      by (outcomes.Refused r) e h rest =
          either (among_in (let g : Fault = record { offset = u.offset; rule = r } in g ∷ said_of us) f h)
          (λ s. inl (ap (λ (g : Fault). g.offset) s, e ∙ ap (λ (g : Fault). refused_by g) s))
          (λ k. inr (rest (in_among (said_of us) f k)))

  pub said_among : (uses : List (Use D P)) (f : Fault) → IsSaid uses f → is_among (said_of uses) f ≡ true
  said_among [] f h = absurd h
  said_among (u ∷ us) f (inl h) =
      ap (λ o. is_among (said_before u.offset o (said_of us)) f) h.1
      ∙ in_among (let g : Fault = record { offset = u.offset; rule = f.rule } in g ∷ said_of us) f (inl (fault_is u.offset f.offset f.rule f.rule h.0 refl))
  said_among (u ∷ us) f (inr h) = by u.outcome (said_among us f h)
    where
      by : (o : Outcome D P) → is_among (said_of us) f ≡ true → is_among (said_before u.offset o (said_of us)) f ≡ true
      by (outcomes.Declared d) h = h
      by (outcomes.Selected d p) h = h
      by (outcomes.Refused r) h = in_among (let g : Fault = record { offset = u.offset; rule = r } in g ∷ said_of us) f (inr (among_in (said_of us) f h))

  pub said_step : (said : List Fault) (u : Use D P) (us : List (Use D P)) (r : _) → u.outcome ≡ outcomes.Refused r → (said ++ (let f : Fault = record { offset = u.offset; rule = r } in f) ∷ []) ++ said_of us ≡ said ++ said_of (u ∷ us)
  said_step [] u us r e = ap (λ o. said_before u.offset o (said_of us)) (sym e)
  said_step (s ∷ ss) u us r e = ap (λ l. s ∷ l) (said_step ss u us r e)

-- all steps

not_true : (b : Bool) → (b ≡ true → ⊥) → not b ≡ true
not_true true h = absurd (h refl)
not_true false h = refl

true_not : (b : Bool) → not b ≡ true → b ≡ true → ⊥
true_not true h k = true≢false (sym h)
true_not false h k = true≢false (sym k)

module _ {D P : Type 0} (uses : List (Use D P)) (faults said sorted kept : List Fault) (is_said : said ≡ said_of uses) (sorted_said : IsPermutation said sorted) (is_kept : kept ≡ filter (is_new sorted) faults) where
  among_sorted : (f : Fault) → is_among sorted f ≡ true → IsSaid uses f
  among_sorted f h =
      let there : Contains said f = Contains-permutation sorted said f (IsPermutation-sym said sorted sorted_said) (contained_in sorted f (among_in sorted f h)) in
      among_said uses f (in_among (said_of uses) f (subst (λ l. In l f) is_said (in_contained said f there)))

  sorted_among : (f : Fault) → IsSaid uses f → is_among sorted f ≡ true
  sorted_among f h =
      let there : In said f = subst (λ l. In l f) (sym is_said) (among_in (said_of uses) f (said_among uses f h)) in
      in_among sorted f (in_contained sorted f (Contains-permutation said sorted f sorted_said (contained_in said f there)))

  from_kept : (f : Fault) → Contains kept f → IsUnsaid uses faults f
  from_kept f h =
      let there = filter_in (is_new sorted) faults f (subst (λ l. In l f) is_kept (in_contained kept f h)) in
      (contained_in faults f there.0, λ s. true_not (is_among sorted f) there.1 (sorted_among f s))

  into_kept : (f : Fault) → IsUnsaid uses faults f → Contains kept f
  into_kept f h =
      let new : is_new sorted f ≡ true = not_true (is_among sorted f) (λ k. h.1 (among_sorted f k)) in
      contained_in kept f (subst (λ l. In l f) (sym is_kept) (in_filter (is_new sorted) faults f (in_contained faults f h.0) new))

  pub unsaid_kept : (f : Fault) → Contains kept f ↔ IsUnsaid uses faults f
  unsaid_kept f = (from_kept f, into_kept f)

module _ {D P : Type 0} (uses : List (Use D P)) (faults kept moved settled : List Fault) (unsaid : (f : Fault) → Contains kept f ↔ IsUnsaid uses faults f) (moves : IsPermutation kept moved) (in_order : IsSortedBy (λ (a b : Fault). is_lt (fault_order a b)) moved) (is_settled : settled ≡ dedup (eq_by_cmp fault_order) moved) where
  from_settled : (f : Fault) → Contains settled f → IsUnsaid uses faults f
  from_settled f h =
      let there : Contains moved f = Contains-from_dedup (eq_by_cmp fault_order) moved f (subst (λ l. Contains l f) is_settled h) in
      (unsaid f).0 (Contains-permutation moved kept f (IsPermutation-sym kept moved moves) there)

  into_settled : (f : Fault) → Contains faults f → ¬ IsSaid uses f → Contains settled f
  into_settled f h new =
      let there : Contains moved f = Contains-permutation kept moved f moves ((unsaid f).1 (h, new)) in
      subst (λ l. Contains l f) (sym is_settled) (Contains-dedup order_equiv tie_same moved f there)

  pub settles : IsSettled D P uses faults settled
  settles = record {
    ordered = subst (AllPairs ComesBefore) (sym is_settled) (sorted_pairs (dedup (eq_by_cmp fault_order) moved) (IsStrictlySortedBy-dedup order_total (λ (x y : Fault). refl) moved in_order));
    kept = into_settled;
    found = λ f h. (from_settled f h).0;
    unsaid = λ f h. (from_settled f h).1;
  }

-- the law

pub settled_are_one : (D P : Type 0) → SettledFaultsAreOne D P
settled_are_one D P uses more faults others settled again says finds one other =
    ordered_same ComesBefore never_itself before_onward settled again one.ordered other.ordered
    (λ f h. other.kept f ((finds f).0 (one.found f h)) (λ s. one.unsaid f h ((says f).1 s)))
    (λ f h. one.kept f ((finds f).1 (other.found f h)) (λ s. other.unsaid f h ((says f).0 s)))
