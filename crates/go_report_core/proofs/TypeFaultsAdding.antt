-- Faults that are added one after another.
use Rattle.std.proofs.Common.{◌≡◌, ℕ, ◌+◌, ◌<◌, ◌≤◌, List, [], ◌++◌, map, length, take, get_or, ◌∷◌, refl, ap, sym, ◌∙◌}
use Rattle.std.specs.List.{flat_map, enumerate_from}
use Rattle.std.proofs.lemmas.List.{append_assoc, get_or_default, take_all}
use Rattle.go_summary_core.specs.typexpr_core.EntryNumbered.{flat_more, flat_item}

-- what each item of a list gives, seen in another way
pub item_step : {A B C : Type 0} (see : A → B) (f : B → List C) (xs : List A) (i : ℕ) (x : A) (first old new : List C) → i < length xs → x ≡ get_or xs i x
    → new ≡ old ++ f (see x) → old ≡ first ++ flat_map f (map see (take i xs)) → new ≡ first ++ flat_map f (map see (take (i + 1) xs))
item_step see f xs i x first old new lt is added before =
    added
    ∙ (ap (λ l. l ++ f (see x)) before
    ∙ (append_assoc first (flat_map f (map see (take i xs))) (f (see x))
    ∙ ap (λ l. first ++ l) (sym (flat_item see f xs i x lt is))))

pub item_end : {A B C : Type 0} (see : A → B) (f : B → List C) (xs : List A) (i : ℕ) (first now : List C) → length xs ≤ i
    → now ≡ first ++ flat_map f (map see (take i xs)) → now ≡ first ++ flat_map f (map see xs)
item_end see f xs i first now le done = done ∙ ap (λ l. first ++ flat_map f (map see l)) (take_all i xs le)

-- the same, where its number counts
pub numbered_step : {A B C : Type 0} (see : A → B) (f : ℕ × B → List C) (xs : List A) (i : ℕ) (x : A) (first old new : List C) → i < length xs → x ≡ get_or xs i x
    → new ≡ old ++ f (i, see x) → old ≡ first ++ flat_map f (enumerate_from 0 (map see (take i xs))) → new ≡ first ++ flat_map f (enumerate_from 0 (map see (take (i + 1) xs)))
numbered_step see f xs i x first old new lt is added before =
    added
    ∙ (ap (λ l. l ++ f (i, see x)) before
    ∙ (append_assoc first (flat_map f (enumerate_from 0 (map see (take i xs)))) (f (i, see x))
    ∙ ap (λ l. first ++ l) (sym (flat_more see f xs i x lt is))))

pub numbered_end : {A B C : Type 0} (see : A → B) (f : ℕ × B → List C) (xs : List A) (i : ℕ) (first now : List C) → length xs ≤ i
    → now ≡ first ++ flat_map f (enumerate_from 0 (map see (take i xs))) → now ≡ first ++ flat_map f (enumerate_from 0 (map see xs))
numbered_end see f xs i first now le done = done ∙ ap (λ l. first ++ flat_map f (enumerate_from 0 (map see l))) (take_all i xs le)

-- the same, where the item is read with a default
pub item_step_or : {A B C : Type 0} (see : A → B) (f : B → List C) (xs : List A) (i : ℕ) (d : A) (first old new : List C) → i < length xs
    → new ≡ old ++ f (see (get_or xs i d)) → old ≡ first ++ flat_map f (map see (take i xs)) → new ≡ first ++ flat_map f (map see (take (i + 1) xs))
item_step_or see f xs i d first old new lt added before = item_step see f xs i (get_or xs i d) first old new lt (get_or_default xs i d (get_or xs i d) lt) added before

-- a list seen as it is
pub itself : {A : Type 0} (xs : List A) → map (λ (x : A). x) xs ≡ xs
itself [] = refl
itself (x ∷ xs) = ap (λ l. x ∷ l) (itself xs)

-- the end of a loop over a list that is seen as it is
pub plain_end : {A C : Type 0} (f : A → List C) (xs : List A) (i : ℕ) (first now : List C) → length xs ≤ i
    → now ≡ first ++ flat_map f (map (λ (x : A). x) (take i xs)) → now ≡ first ++ flat_map f xs
plain_end f xs i first now le done = item_end (λ x. x) f xs i first now le done ∙ ap (λ l. first ++ flat_map f l) (itself xs)
