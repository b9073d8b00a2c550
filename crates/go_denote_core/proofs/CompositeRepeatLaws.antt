-- Which names are repeated, by their places.
use Rattle.std.proofs.Common.{◌≡◌, ℕ, zero, suc, ◌<◌, Bool, true, false, ◌||◌, List, [], ◌∷◌, ◌++◌, take, drop, length, if◌then◌else◌, refl, sym, ap, ◌∙◌, add-one, arith}
use Rattle.std.specs.Prelude.{◌≢◌, Some, option_map, slice_get}
use Rattle.std.specs.Str.{bytes_eq}
use Rattle.std.proofs.lemmas.Option.{none-some, same_Some, slice_get-map}
use Rattle.std.proofs.lemmas.Bool.{true≢false}
use Rattle.std.proofs.lemmas.List.{length-map}
use Rattle.go_denote_core.specs.composite.Repeats.{has_name, repeats, repeated, others}
use Rattle.go_denote_core.specs.composite.Laws.{with_name_at, RepeatedNames}
use Rattle.go_denote_core.proofs.CompositeNames.{bytes_same, bytes_itself}

-- the names but one, by a successor
abbrev rest : List (List ℕ) → ℕ → List (List ℕ)
rest names i = take i names ++ drop (suc i) names

others_rest : (names : List (List ℕ)) (i : ℕ) → others names i ≡ rest names i
others_rest names i = ap (λ j. take i names ++ drop j names) (add-one i)

or_left : (a b : Bool) → a ≡ true → (a || b) ≡ true
or_left true b h = refl
or_left false b h = absurd (true≢false (sym h))

or_right : (a b : Bool) → b ≡ true → (a || b) ≡ true
or_right true b h = refl
or_right false b h = h

-- a name that stands at a place is among the names
has_at : (names : List (List ℕ)) (j : ℕ) (name : List ℕ) → slice_get names j ≡ Some name → has_name name names ≡ true
has_at [] j name there = absurd (none-some name there)
has_at (x ∷ xs) zero name there = or_left (bytes_eq x name) (has_name name xs) (bytes_itself x name (same_Some x name there))
has_at (x ∷ xs) (suc j) name there = or_right (bytes_eq x name) (has_name name xs) (has_at xs j name there)

-- and a name among them stands at a place
find_at : (names : List (List ℕ)) (name : List ℕ) → has_name name names ≡ true → (j : ℕ) × (slice_get names j ≡ Some name)
find_at [] name h = absurd (true≢false (sym h))
find_at (x ∷ xs) name h = by (bytes_eq x name) refl (find_at xs name) h
  where
    by : (b : Bool) → bytes_eq x name ≡ b → (has_name name xs ≡ true → (j : ℕ) × (slice_get xs j ≡ Some name)) → (b || has_name name xs) ≡ true → (j : ℕ) × (slice_get (x ∷ xs) j ≡ Some name)
    by true same later h = (zero, ap Some (bytes_same x name same))
    by false other later h = let it = later h in (suc it.0, it.1)

pub repeats_others : (names : List (List ℕ)) (i : ℕ) (name : List ℕ) → slice_get names i ≡ Some name → repeats name names ≡ has_name name (rest names i)
repeats_others [] i name there = absurd (none-some name there)
repeats_others (x ∷ xs) zero name there = ap (λ b. if b then has_name name xs else repeats name xs) (bytes_itself x name (same_Some x name there))
repeats_others (x ∷ xs) (suc i) name there = by (bytes_eq x name) (has_at xs i name there) (repeats_others xs i name there)
  where
    by : (b : Bool) → has_name name xs ≡ true → repeats name xs ≡ has_name name (rest xs i) → (if b then has_name name xs else repeats name xs) ≡ (b || has_name name (rest xs i))
    by true h k = h
    by false h k = k

elsewhere : (names : List (List ℕ)) (i : ℕ) (name : List ℕ) → slice_get names i ≡ Some name → has_name name (rest names i) ≡ true → (j : ℕ) × (j ≢ i) × (slice_get names j ≡ Some name)
elsewhere [] i name there h = absurd (none-some name there)
elsewhere (x ∷ xs) zero name there h = let it = find_at xs name h in (suc it.0, (λ same. absurd (omega arith)), it.1)
elsewhere (x ∷ xs) (suc i) name there h = by (bytes_eq x name) refl (elsewhere xs i name there) h
  where
    by : (b : Bool) → bytes_eq x name ≡ b → (has_name name (rest xs i) ≡ true → (j : ℕ) × (j ≢ i) × (slice_get xs j ≡ Some name))
        → (b || has_name name (rest xs i)) ≡ true → (j : ℕ) × (j ≢ suc i) × (slice_get (x ∷ xs) j ≡ Some name)
    by true same later h = (zero, (λ e. absurd (omega arith)), ap Some (bytes_same x name same))
    by false other later h =
        let it = later h in
        let apart : it.0 ≡ i → ⊥ = it.1 in
        (suc it.0, (λ e. apart (omega arith)), it.2)

among_rest : (names : List (List ℕ)) (i j : ℕ) (name : List ℕ) → j ≢ i → slice_get names j ≡ Some name → has_name name (rest names i) ≡ true
among_rest [] i j name apart there = absurd (none-some name there)
among_rest (x ∷ xs) zero zero name apart there = absurd (apart refl)
among_rest (x ∷ xs) zero (suc j) name apart there = has_at xs j name there
among_rest (x ∷ xs) (suc i) zero name apart there = or_left (bytes_eq x name) (has_name name (rest xs i)) (bytes_itself x name (same_Some x name there))
among_rest (x ∷ xs) (suc i) (suc j) name apart there = or_right (bytes_eq x name) (has_name name (rest xs i)) (among_rest xs i j name (λ e. apart (ap suc e)) there)

pub repeats_is : (names : List (List ℕ)) (i : ℕ) (name : List ℕ) → slice_get names i ≡ Some name → repeats name names ≡ has_name name (others names i)
repeats_is names i name there = repeats_others names i name there ∙ ap (has_name name) (sym (others_rest names i))

flag_at : (names : List (List ℕ)) (i : ℕ) (name : List ℕ) → slice_get names i ≡ Some name → slice_get (repeated names) i ≡ Some (repeats name names)
flag_at names i name there = slice_get-map (λ n. repeats n names) names i ∙ ap (option_map (λ n. repeats n names)) there

pub repeated_names : RepeatedNames
repeated_names = record {
  many = λ names. length-map names (λ n. repeats n names);
  by_place = λ names i name there. (
    λ h. elsewhere names i name there (sym (repeats_others names i name there) ∙ same_Some (repeats name names) true (sym (flag_at names i name there) ∙ h)),
    λ h. flag_at names i name there ∙ ap Some (repeats_others names i name there ∙ among_rest names i h.0 name h.1 h.2),
  );
  by_others = λ names i name there. flag_at names i name there ∙ ap Some (repeats_is names i name there);
}

-- another name at a place leaves the others as they were

respelled_rest : (names : List (List ℕ)) (i : ℕ) (name : List ℕ) → i < length names → rest (take i names ++ name ∷ drop (suc i) names) i ≡ rest names i
respelled_rest [] i name lt = absurd (omega arith)
respelled_rest (x ∷ xs) zero name lt = refl
respelled_rest (x ∷ xs) (suc i) name lt = ap (λ l. x ∷ l) (respelled_rest xs i name (omega arith))

pub others_stay : (names : List (List ℕ)) (i : ℕ) (name : List ℕ) → i < length names → others (with_name_at names i name) i ≡ others names i
others_stay names i name lt =
    ap (λ j. others (take i names ++ name ∷ drop j names) i) (add-one i)
    ∙ (others_rest (take i names ++ name ∷ drop (suc i) names) i ∙ (respelled_rest names i name lt ∙ sym (others_rest names i)))
