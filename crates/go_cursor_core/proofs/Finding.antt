-- The first identifier that begins at an offset, in one list behind another and in loops over lists.
use Rattle.std.proofs.Common.{◌≡◌, ℕ, ◌+◌, ◌<◌, ◌≤◌, Bool, true, false, List, [], ◌∷◌, ◌++◌, length, get_or, drop, Option, Some, None, refl, sym, ap, ◌∙◌}
use Rattle.std.specs.Prelude.{is_some, find, map, if◌then◌else◌}
use Rattle.std.specs.Option.{option_map, option_or}
use Rattle.std.proofs.lemmas.List.{drop_more, drop_all}
use Rattle.std.proofs.lemmas.List.Folds.{find-append}
use Rattle.go_cursor_core.specs.declared.spot.UsedName.{UsedName}
use Rattle.go_cursor_core.specs.Shown.{found_shown}
use Rattle.go_cursor_core.specs.Used.{Used, begins_at, first_used}

pub find_mapped : {A B : Type 0} (p : B → Bool) (g : A → B) (xs : List A) → find p (map g xs) ≡ option_map g (find (λ x. p (g x)) xs)
find_mapped p g [] = refl
find_mapped p g (x ∷ xs) = by (p (g x)) (find_mapped p g xs)
  where
    by : (b : Bool) → find p (map g xs) ≡ option_map g (find (λ y. p (g y)) xs) → (if b then Some (g x) else find p (map g xs)) ≡ option_map g (if b then Some x else find (λ y. p (g y)) xs)
    by true h = refl
    by false h = h

pub parts : (start : ℕ) (all xs ys : List Used) → all ≡ xs ++ ys → first_used start all ≡ option_or (first_used start xs) (first_used start ys)
parts start all xs ys same = ap (first_used start) same ∙ find-append (begins_at start) xs ys

-- it is found in the first list, or not there
pub in_front : (start : ℕ) (r : Option UsedName) (all xs ys : List Used) → all ≡ xs ++ ys → found_shown r ≡ first_used start xs → is_some r ≡ true → found_shown r ≡ first_used start all
in_front start None all xs ys same h is = absurd (cc)
in_front start (Some u) all xs ys same h is = ap (λ o. option_or o (first_used start ys)) h ∙ sym (parts start all xs ys same)

pub not_in_front : (start : ℕ) (r : Option UsedName) (all xs ys : List Used) → all ≡ xs ++ ys → found_shown r ≡ first_used start xs → is_some r ≡ false → first_used start all ≡ first_used start ys
not_in_front start None all xs ys same h is = parts start all xs ys same ∙ ap (λ o. option_or o (first_used start ys)) (sym h)
not_in_front start (Some u) all xs ys same h is = absurd (cc)

-- by the form of what the first list gives

pub some_there : {A : Type 0} (r : Option A) → (r ≡ None → ⊥) → is_some r ≡ true
some_there None h = absurd (h refl)
some_there (Some u) h = refl

pub front : (start : ℕ) (r : Option UsedName) (all xs ys : List Used) → all ≡ xs ++ ys → found_shown r ≡ first_used start xs → (r ≡ None → ⊥) → found_shown r ≡ first_used start all
front start r all xs ys same h is = in_front start r all xs ys same h (some_there r is)

pub behind : (start : ℕ) (r s : Option UsedName) (all xs ys : List Used) → all ≡ xs ++ ys → found_shown r ≡ first_used start xs → r ≡ None → found_shown s ≡ first_used start ys → found_shown s ≡ first_used start all
behind start r s all xs ys same h is last = last ∙ sym (not_in_front start r all xs ys same h (ap is_some is))

-- loops over lists, where what an item has depends on its number
module _ {A : Type 0} (start : ℕ) (every : ℕ → List A → List Used) (one : ℕ → A → List Used) (none : (n : ℕ) → every n [] ≡ []) (first : (n : ℕ) (x : A) (xs : List A) → every n (x ∷ xs) ≡ one n x ++ every (n + 1) xs) where
  -- the items in front have none
  abbrev pub Ahead : List A → ℕ → Type 0
  Ahead xs i = first_used start (every i (drop i xs)) ≡ first_used start (every 0 xs)

  at_item : (xs : List A) (i : ℕ) (x : A) → i < length xs → x ≡ get_or xs i x → every i (drop i xs) ≡ one i x ++ every (i + 1) (drop (i + 1) xs)
  at_item xs i x h is = ap (every i) (drop_more xs i x h ∙ ap (λ y. y ∷ drop (i + 1) xs) (sym is)) ∙ first i x (drop (i + 1) xs)

  pub passed : (xs : List A) (i : ℕ) (x : A) (r : Option UsedName) → i < length xs → x ≡ get_or xs i x → Ahead xs i → found_shown r ≡ first_used start (one i x) → is_some r ≡ false → Ahead xs (i + 1)
  passed xs i x r h is before now not_there = sym (not_in_front start r (every i (drop i xs)) (one i x) (every (i + 1) (drop (i + 1) xs)) (at_item xs i x h is) now not_there) ∙ before

  pub hit : (items xs : List A) (i : ℕ) (x : A) (r : Option UsedName) → items ≡ xs → i < length items → x ≡ get_or items i x → Ahead items i → found_shown r ≡ first_used start (one i x) → is_some r ≡ true → found_shown r ≡ first_used start (every 0 xs)
  hit items xs i x r same h is before now there =
      in_front start r (every i (drop i items)) (one i x) (every (i + 1) (drop (i + 1) items)) (at_item items i x h is) now there ∙ (before ∙ ap (λ l. first_used start (every 0 l)) same)

  pub ended : (items xs : List A) (i : ℕ) → items ≡ xs → length items ≤ i → Ahead items i → ◌≡◌ {A = Option Used} None (first_used start (every 0 xs))
  ended items xs i same h before = sym (ap (first_used start) (ap (every i) (drop_all i items h) ∙ none i)) ∙ (before ∙ ap (λ l. first_used start (every 0 l)) same)
