-- Identifiers by their names, as a package has them.
use Rattle.std.proofs.Common.{◌≡◌, ℕ, Bool, true, false, not, ◌&&◌, ◌||◌, List, ◌∷◌, Option, Some, None, is_some, cond, if◌then◌else◌, refl, sym, ap, ◌∙◌, inl, inr}
use Rattle.std.specs.Borrow.{Bor}
use Rattle.std.specs.Cmp.Lexicographic.{slice_cmp}
use Rattle.std.specs.Ordering.{is_eq, nat_cmp}
use Rattle.std.specs.Str.{bytes_eq, chars}
use Rattle.std.proofs.lemmas.Bool.{true≢false, false≢true}
use Rattle.std.proofs.lemmas.Map.Text.{is_eq-slice_cmp}
use Rattle.std.proofs.lemmas.Slice.Eq.{bytes_eq-Decides}
use Rattle.go_path_core.specs.text_core.Text.{exported}
use Rattle.go_path_core.specs.text_core.Each.{true_or_false}
use Rattle.go_select_core.specs.declared.names.Known.{Known}
use Rattle.go_select_core.specs.mirrors.Names.{Identifier, identifier_of, Key, key_shown, same_identifier, names_shown, known_of}
use Rattle.go_select_core.proofs.Identifiers.{identifiers_same, same_identifiers}
use Rattle.go_select_core.specs.surveys.mirrors.Seen.{seen_of, first_seen, has_word, has_hidden}

abbrev pub Entries : Type 0
Entries = List (Bor (List ℕ) × Known)

abbrev pub KeyedNames : Type 0
KeyedNames = List (Key × Known)

-- 1. One name.

pub seen_alone : (o : Option Known) → o ≡ first_seen o None
seen_alone None = refl
seen_alone (Some k) = refl

unknown : (o : Option Known) → false ≡ is_some o → o ≡ None
unknown None h = refl
unknown (Some k) h = absurd (false≢true h)

pub name_added : (old new : Entries) (k : Bor (List ℕ)) (v : Known) → false ≡ is_some (seen_of old k.now) → ((q : Bor (List ℕ)) → seen_of new q.now ≡ (if is_eq (slice_cmp nat_cmp k.now q.now) then Some v else seen_of old q.now))
    → (n : List ℕ) → seen_of new n ≡ first_seen (seen_of old n) (if bytes_eq k.now n then Some v else None)
name_added old new k v absent adds n =
    adds (record { ref_ptr = (0, 0); now = n })
    ∙ (ap (λ b. if b then Some v else seen_of old n) (is_eq-slice_cmp k.now n) ∙ by (bytes_eq k.now n) (bytes_eq-Decides k.now n).0)
  where
    by : (b : Bool) → (b ≡ true → k.now ≡ n) → (if b then Some v else seen_of old n) ≡ first_seen (seen_of old n) (if b then Some v else None)
    by true same = sym (ap (λ o. first_seen o (Some v)) (ap (seen_of old) (sym (same refl)) ∙ unknown (seen_of old k.now) absent))
    by false same = seen_alone (seen_of old n)

agree : (a b : Bool) → (a ≡ true → b ≡ true) → (b ≡ true → a ≡ true) → a ≡ b
agree true true to back = refl
agree false false to back = refl
agree true false to back = absurd (true≢false (sym (to refl)))
agree false true to back = absurd (true≢false (sym (back refl)))

module _ (name home from n : List ℕ) where
  -- the identifier that a name is in the package
  pub of_name : bytes_eq home (identifier_of name from).1 ≡ true → bytes_eq name n ≡ same_identifier (identifier_of n from) (name, home)
  of_name h = agree (bytes_eq name n) (same_identifier (identifier_of n from) (name, home)) to back
    where
      is : (name, home) ≡ identifier_of name from
      is = λ i. (name, (bytes_eq-Decides home (identifier_of name from).1).0 h i)

      to : bytes_eq name n ≡ true → same_identifier (identifier_of n from) (name, home) ≡ true
      to e =
          let s : name ≡ n = (bytes_eq-Decides name n).0 e in
          same_identifiers (identifier_of n from) (name, home) (sym (is ∙ ap (λ m. identifier_of m from) s))

      back : same_identifier (identifier_of n from) (name, home) ≡ true → bytes_eq name n ≡ true
      back e =
          let s = identifiers_same (identifier_of n from) (name, home) e in
          (bytes_eq-Decides name n).1 (sym (ap (λ (q : Identifier). q.0) s))

  -- another one
  pub off_name : bytes_eq home (identifier_of name from).1 ≡ false → same_identifier (identifier_of n from) (name, home) ≡ false
  off_name h =
      elim (true_or_false (same_identifier (identifier_of n from) (name, home))) [
        | inl e ↦
            let s = identifiers_same (identifier_of n from) (name, home) e in
            let first : n ≡ name = ap (λ (q : Identifier). q.0) s in
            let there : home ≡ (identifier_of name from).1 = sym (ap (λ (q : Identifier). q.1) s) ∙ ap (λ m. (identifier_of m from).1) first in
            absurd (true≢false (sym ((bytes_eq-Decides home (identifier_of name from).1).1 there) ∙ h))
        | inr e ↦ e
      ]

-- 2. The loop over identifiers.

first_step : (o : Option Known) (b : Bool) (v : Known) (rest : Option Known) → first_seen (first_seen o (if b then Some v else None)) rest ≡ first_seen o (cond b (Some v) rest)
first_step None true v rest = refl
first_step None false v rest = refl
first_step (Some k) b v rest = refl

pub seen_step : (old new : Entries) (from : List ℕ) (e : Key × Known) (rest all : KeyedNames) → ((n : List ℕ) → first_seen (seen_of old n) (known_of (names_shown (e ∷ rest)) (identifier_of n from)) ≡ known_of (names_shown all) (identifier_of n from))
    → ((n : List ℕ) → seen_of new n ≡ first_seen (seen_of old n) (if same_identifier (identifier_of n from) (key_shown e.0) then Some e.1 else None))
    → (n : List ℕ) → first_seen (seen_of new n) (known_of (names_shown rest) (identifier_of n from)) ≡ known_of (names_shown all) (identifier_of n from)
seen_step old new from e rest all before adds n =
    ap (λ o. first_seen o (known_of (names_shown rest) (identifier_of n from))) (adds n)
    ∙ (first_step (seen_of old n) (same_identifier (identifier_of n from) (key_shown e.0)) e.1 (known_of (names_shown rest) (identifier_of n from)) ∙ before n)

or_again : (a b c : Bool) → (a || b) || c ≡ a || (b || c)
or_again true b c = refl
or_again false b c = refl

pub word_step : (old new : List (Bor (List ℕ))) (e : Key × Known) (rest all : KeyedNames) → ((n : List ℕ) → (has_word old n || has_hidden (names_shown (e ∷ rest)) n) ≡ has_hidden (names_shown all) n)
    → ((n : List ℕ) → has_word new n ≡ (has_word old n || (bytes_eq n e.0.0.now && not (exported (chars e.0.0.now)))))
    → (n : List ℕ) → (has_word new n || has_hidden (names_shown rest) n) ≡ has_hidden (names_shown all) n
word_step old new e rest all before adds n =
    ap (λ b. b || has_hidden (names_shown rest) n) (adds n)
    ∙ (or_again (has_word old n) (bytes_eq n e.0.0.now && not (exported (chars e.0.0.now))) (has_hidden (names_shown rest) n) ∙ before n)

pub or_nothing : (b : Bool) → b ≡ b || false
or_nothing true = refl
or_nothing false = refl

bytes_turned : (a b : List ℕ) → bytes_eq a b ≡ bytes_eq b a
bytes_turned a b = agree (bytes_eq a b) (bytes_eq b a) (λ h. (bytes_eq-Decides b a).1 (sym ((bytes_eq-Decides a b).0 h))) (λ h. (bytes_eq-Decides a b).1 (sym ((bytes_eq-Decides b a).0 h)))

-- 3. One name of a set.

pub word_added : (old new : List (Bor (List ℕ))) (name n : List ℕ) (e : Bool) → has_word new n ≡ (if is_eq (slice_cmp nat_cmp name n) then true else has_word old n) → e ≡ false → has_word new n ≡ (has_word old n || (bytes_eq n name && not e))
word_added old new name n e adds off =
    adds
    ∙ (ap (λ b. if b then true else has_word old n) (is_eq-slice_cmp name n ∙ bytes_turned name n)
    ∙ (by (bytes_eq n name) (has_word old n) ∙ ap (λ x. has_word old n || (bytes_eq n name && not x)) (sym off)))
  where
    by : (b w : Bool) → (if b then true else w) ≡ (w || (b && true))
    by true true = refl
    by true false = refl
    by false true = refl
    by false false = refl

pub word_left : (keys : List (Bor (List ℕ))) (name n : List ℕ) (e : Bool) → e ≡ true → has_word keys n ≡ (has_word keys n || (bytes_eq n name && not e))
word_left keys name n e on = by (has_word keys n) (bytes_eq n name) ∙ ap (λ x. has_word keys n || (bytes_eq n name && not x)) (sym on)
  where
    by : (w b : Bool) → w ≡ (w || (b && false))
    by true b = refl
    by false true = refl
    by false false = refl
