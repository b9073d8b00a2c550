-- What lists of names have, and what the locals of a block are.
use Rattle.std.proofs.Common.{◌≡◌, ℕ, zero, suc, ◌+◌, ◌<◌, Bool, true, false, cond, ◌⊎◌, inl, inr, List, [], ◌∷◌, ◌++◌, length, get_or, drop, map, Option, Some, None, Bor, refl, sym, ap, ◌∙◌, subst, append-nil, append_assoc, arith}
use Rattle.std.specs.Prelude.{◌↔◌, ◌≤◌, Contains, filter, is_some, IsSome}
use Rattle.std.proofs.lemmas.List.{map-append, drop_more, drop_all}
use Rattle.std.proofs.lemmas.List.Elements.{All-contains, All-contains_itself, All-filter, Contains-append_cases, Contains-append_right, filter_passes}
use Rattle.go_cursor_core.specs.scope_stack.Blocks.{found_in}
use Rattle.go_inline_core.specs.scope_core.Models.{ScopesModel}
use Rattle.go_inline_core.specs.scope_core.Scopes.{Denoted, scope_blocks}
use Rattle.go_expr_core.specs.denote_core.declared.things.Stand.{Stand}
use Rattle.go_candidate_core.specs.context.Alone.{stands_alone, fits_some, thing_found}

module _ {X : Type 0} where
  first_has : (x y : X) (xs : List X) → x ≡ y → Contains (x ∷ xs) y
  first_has x y xs same = (0, omega arith, same)

  one_has : (x y : X) → Contains (x ∷ []) y → x ≡ y
  one_has x y (zero, below, same) = same
  one_has x y (suc k, below, same) = absurd (omega arith)

  none_has : (y : X) → Contains [] y → ⊥
  none_has y h = let below : h.0 < 0 = h.1 in omega arith

  is_first_or_more : (x y : X) (xs : List X) → Contains (x ∷ xs) y → (x ≡ y) ⊎ Contains xs y
  is_first_or_more x y xs h = elim (Contains-append_cases (x ∷ []) xs y h) [ inl a ↦ inl (one_has x y a) | inr a ↦ inr a ]

  more_has : (x y : X) (xs : List X) → Contains xs y → Contains (x ∷ xs) y
  more_has x y xs h = Contains-append_right (x ∷ []) xs y h

  pub filter_has : (p : X → Bool) (xs : List X) (y : X) → Contains xs y → p y ≡ true → Contains (filter p xs) y
  filter_has p [] y h passes = absurd (none_has y h)
  filter_has p (x ∷ xs) y h passes = elim (is_first_or_more x y xs h) [
    | inl same ↦ (let here : p x ≡ true = ap p same ∙ passes in rw here (first_has x y (filter p xs) same))
    | inr more ↦ kept (p x) (filter_has p xs y more passes)
  ]
    where
      kept : (b : Bool) → Contains (filter p xs) y → Contains (cond b (x ∷ filter p xs) (filter p xs)) y
      kept true c = more_has x y (filter p xs) c
      kept false c = c

  pub filter_had : (p : X → Bool) (xs : List X) (y : X) → Contains (filter p xs) y → Contains xs y × (p y ≡ true)
  filter_had p xs y h = (
    All-contains (Contains xs) (filter p xs) y (All-filter p (Contains xs) xs (All-contains_itself xs)) h,
    All-contains (λ x. p x ≡ true) (filter p xs) y (filter_passes p xs) h,
  )

-- what may stand denotes something
pub stands_found : (s : ScopesModel) (p : Stand) (name : List ℕ) → stands_alone s p name ≡ true → is_some (found_in (scope_blocks s) name) ≡ true
stands_found s p name h = by (found_in (scope_blocks s) name) h
  where
    by : (d : Option Denoted) → fits_some p (thing_found d) ≡ true → is_some d ≡ true
    by None h = h
    by (Some d) h = refl

-- one turn of a loop that keeps the names that pass a test

abbrev texts : List (Bor (List ℕ)) → List (List ℕ)
texts xs = map (λ n. n.now) xs

at_name : (p : List ℕ → Bool) (items : List (Bor (List ℕ))) (i : ℕ) (x : Bor (List ℕ)) → i < length items → x ≡ get_or items i x → filter p (texts (drop i items)) ≡ filter p (x.now ∷ texts (drop (i + 1) items))
at_name p items i x h is = ap (λ l. filter p (texts l)) (drop_more items i x h ∙ ap (λ y. y ∷ drop (i + 1) items) (sym is))

pub name_kept : (p : List ℕ → Bool) (old items : List (Bor (List ℕ))) (i : ℕ) (x : Bor (List ℕ)) (all : List (List ℕ)) → i < length items → x ≡ get_or items i x → p x.now ≡ true → texts old ++ filter p (texts (drop i items)) ≡ all
    → texts (old ++ x ∷ []) ++ filter p (texts (drop (i + 1) items)) ≡ all
name_kept p old items i x all h is passes before =
    let rest = filter p (texts (drop (i + 1) items)) in
    ap (λ l. l ++ rest) (map-append (λ (n : Bor (List ℕ)). n.now) old (x ∷ []))
    ∙ (append_assoc (texts old) (x.now ∷ []) rest ∙ (sym (ap (λ l. texts old ++ l) (at_name p items i x h is ∙ ap (λ b. cond b (x.now ∷ rest) rest) passes)) ∙ before))

pub name_left : (p : List ℕ → Bool) (old items : List (Bor (List ℕ))) (i : ℕ) (x : Bor (List ℕ)) (all : List (List ℕ)) → i < length items → x ≡ get_or items i x → p x.now ≡ false → texts old ++ filter p (texts (drop i items)) ≡ all
    → texts old ++ filter p (texts (drop (i + 1) items)) ≡ all
name_left p old items i x all h is fails before =
    let rest = filter p (texts (drop (i + 1) items)) in
    sym (ap (λ l. texts old ++ l) (at_name p items i x h is ∙ ap (λ b. cond b (x.now ∷ rest) rest) fails)) ∙ before

pub names_all : (p : List ℕ → Bool) (old items xs : List (Bor (List ℕ))) (i : ℕ) → items ≡ xs → length items ≤ i → texts old ++ filter p (texts (drop i items)) ≡ filter p (texts items) → texts old ≡ filter p (texts xs)
names_all p old items xs i same h before = sym (append-nil (texts old)) ∙ (sym (ap (λ l. texts old ++ filter p (texts l)) (drop_all i items h)) ∙ (before ∙ ap (λ l. filter p (texts l)) same))

-- exactly the names that may stand
pub each_stands : (s : ScopesModel) (p : Stand) (all names : List (List ℕ)) → names ≡ filter (stands_alone s p) all → ((name : List ℕ) → IsSome (found_in (scope_blocks s) name) → Contains all name) → (name : List ℕ) → Contains names name ↔ (stands_alone s p name ≡ true)
each_stands s p all names same found name =
    let P : List (List ℕ) → Type 0 = λ l. Contains l name in
    (λ h. (filter_had (stands_alone s p) all name (subst P same h)).1, λ h. subst P (sym same) (filter_has (stands_alone s p) all name (found name (stands_found s p name h)) h))
