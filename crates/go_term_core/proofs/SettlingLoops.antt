-- Loops that keep some of a list, and put what they make of it behind one another.
use Rattle.std.proofs.Common.{◌≡◌, ℕ, ◌+◌, ◌<◌, ◌≤◌, Bool, true, false, not, List, [], ◌∷◌, ◌++◌, length, get_or, map, drop, if◌then◌else◌, refl, sym, ap, ◌∙◌, append_assoc, append-nil, arith}
use Rattle.std.proofs.lemmas.List.{drop_more, drop_all}
use Rattle.go_term_core.proofs.SameLists.{first_is}
use Rattle.go_term_core.specs.settling.Settled.{is_among_names}
use Rattle.go_term_core.specs.settling.mirrors.Kept.{kept_names}
use Rattle.go_term_core.proofs.SettlingNames.{SameNames, one_more}

module _ {X T : Type 0} (put make : X → T → T) (none : T) where
  -- elements behind one another
  abbrev pub onto : List X → T → T
  onto [] rest = rest
  onto (x ∷ xs) rest = put x (onto xs rest)

  -- what is made of those that are kept
  abbrev pub masked : List Bool → List X → T
  masked ks [] = none
  masked [] (x ∷ xs) = none
  masked (k ∷ ks) (x ∷ xs) = if k then make x (masked ks xs) else masked ks xs

  -- what is made of all
  abbrev pub made : List X → T
  made [] = none
  made (x ∷ xs) = make x (made xs)

  onto_push : (xs : List X) (y : X) (rest : T) → onto (xs ++ y ∷ []) rest ≡ onto xs (put y rest)
  onto_push [] y rest = refl
  onto_push (x ∷ xs) y rest = ap (put x) (onto_push xs y rest)

  front : (ks : List Bool) (xs : List X) (i : ℕ) (x : X) (b : Bool) → i < length ks → i < length xs → get_or ks i false ≡ b → x ≡ get_or xs i x
      → masked (drop i ks) (drop i xs) ≡ (if b then make x (masked (drop (i + 1) ks) (drop (i + 1) xs)) else masked (drop (i + 1) ks) (drop (i + 1) xs))
  front ks xs i x b k_lt lt kept is =
      let ks_at = drop_more ks i false k_lt ∙ ap (λ k. k ∷ drop (i + 1) ks) kept in
      let xs_at = first_is xs i x lt is in
      (λ j. masked (ks_at j) (xs_at j))

  pub one_kept : (settled more : List X) (y x : X) (ks : List Bool) (xs : List X) (i : ℕ) (all : T) → i < length ks → i < length xs → get_or ks i false ≡ true → x ≡ get_or xs i x
      → more ≡ settled ++ y ∷ [] → ((rest : T) → put y rest ≡ make x rest)
      → onto settled (masked (drop i ks) (drop i xs)) ≡ all → onto more (masked (drop (i + 1) ks) (drop (i + 1) xs)) ≡ all
  one_kept settled more y x ks xs i all k_lt lt kept is pushed same before =
      let rest : T = masked (drop (i + 1) ks) (drop (i + 1) xs) in
      ap (λ l. onto l rest) pushed ∙ (onto_push settled y rest ∙ (ap (onto settled) (same rest ∙ sym (front ks xs i x true k_lt lt kept is)) ∙ before))

  pub one_left : (settled : List X) (x : X) (ks : List Bool) (xs : List X) (i : ℕ) (all : T) → i < length ks → i < length xs → get_or ks i false ≡ false → x ≡ get_or xs i x
      → onto settled (masked (drop i ks) (drop i xs)) ≡ all → onto settled (masked (drop (i + 1) ks) (drop (i + 1) xs)) ≡ all
  one_left settled x ks xs i all k_lt lt kept is before = ap (onto settled) (sym (front ks xs i x false k_lt lt kept is)) ∙ before

  pub all_kept : (settled : List X) (ks : List Bool) (xs : List X) (i : ℕ) (all : T) → length xs ≤ i → onto settled (masked (drop i ks) (drop i xs)) ≡ all → onto settled none ≡ all
  all_kept settled ks xs i all h before = sym (ap (λ l. onto settled (masked (drop i ks) l)) (drop_all i xs h)) ∙ before

  pub one_made : (settled more : List X) (y x : X) (xs : List X) (i : ℕ) (all : T) → i < length xs → x ≡ get_or xs i x
      → more ≡ settled ++ y ∷ [] → ((rest : T) → put y rest ≡ make x rest)
      → onto settled (made (drop i xs)) ≡ all → onto more (made (drop (i + 1) xs)) ≡ all
  one_made settled more y x xs i all lt is pushed same before =
      let rest : T = made (drop (i + 1) xs) in
      ap (λ l. onto l rest) pushed ∙ (onto_push settled y rest ∙ (ap (onto settled) (same rest ∙ sym (ap made (first_is xs i x lt is))) ∙ before))

  pub all_made : (settled xs : List X) (i : ℕ) (all : T) → length xs ≤ i → onto settled (made (drop i xs)) ≡ all → onto settled none ≡ all
  all_made settled xs i all h before = sym (ap (λ l. onto settled (made l)) (drop_all i xs h)) ∙ before

-- which names are kept, as far as a loop has come
module _ {X : Type 0} (keeps : List ℕ → Bool → Bool) (name_of : X → List ℕ) where
  abbrev pub Keeps : List (List ℕ) → List Bool → List X → List Bool → Type 0
  Keeps seen before xs all = (s : List (List ℕ)) × SameNames s seen × (before ++ kept_names keeps s (map name_of xs) ≡ all)

  pub one_flag : (xs : List X) (i : ℕ) (x : X) (old new : List (List ℕ)) (name : List ℕ) (before after : List Bool) (is_new flag : Bool) (all : List Bool)
      → i < length xs → x ≡ get_or xs i x → name ≡ name_of x → is_new ≡ not (is_among_names old name) → SameNames new (name ∷ old) → flag ≡ keeps name is_new → after ≡ before ++ flag ∷ []
      → Keeps old before (drop i xs) all → Keeps new after (drop (i + 1) xs) all
  one_flag xs i x old new name before after is_new flag all lt is named added seen flagged pushed h =
      let s : List (List ℕ) = h.0 in
      let rest : List (List ℕ) = map name_of (drop (i + 1) xs) in
      let flag_is : flag ≡ keeps name (not (is_among_names s name)) = flagged ∙ ap (keeps name) (added ∙ ap not (sym (h.1 name))) in (
        name ∷ s,
        λ n. one_more name s old h.1 n ∙ sym (seen n),
        ap (λ l. l ++ kept_names keeps (name ∷ s) rest) pushed
            ∙ (append_assoc before (flag ∷ []) (kept_names keeps (name ∷ s) rest)
            ∙ (ap (λ b. before ++ b ∷ kept_names keeps (name ∷ s) rest) flag_is
            ∙ (ap (λ m. before ++ keeps m (not (is_among_names s m)) ∷ kept_names keeps (m ∷ s) rest) named
            ∙ (sym (ap (λ l. before ++ kept_names keeps s (map name_of l)) (first_is xs i x lt is))
            ∙ h.2)))),
      )

  pub all_flags : (xs : List X) (i : ℕ) (seen : List (List ℕ)) (before all : List Bool) → length xs ≤ i → Keeps seen before (drop i xs) all → before ≡ all
  all_flags xs i seen before all lt h =
      sym (append-nil before) ∙ (sym (ap (λ l. before ++ kept_names keeps h.0 (map name_of l)) (drop_all i xs lt)) ∙ h.2)

pub within : (i a b n : ℕ) → i < n → a ≡ b → b ≡ n → i < a
within i a b n lt e f = omega arith
