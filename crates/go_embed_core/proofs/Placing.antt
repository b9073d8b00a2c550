-- What an index of names says of the members of a list.
use Rattle.std.proofs.Common.{◌≡◌, ℕ, zero, suc, ◌+◌, Bool, true, false, ◌&&◌, ◌||◌, List, [], ◌∷◌, map, Option, Some, None, is_some, if◌then◌else◌, refl, sym, ap, ◌∙◌, arith}
use Rattle.std.specs.Prelude.{slice_get, option_map, codes}
use Rattle.std.specs.Str.{bytes_eq, chars}
use Rattle.std.proofs.lemmas.Bool.{true≢false}
use Rattle.std.proofs.lemmas.Slice.Eq.{bytes_eq-Decides}
use Rattle.go_collections_core.specs.text_core.Text.{exported}
use Rattle.go_term_core.specs.Terms.{Term, NoType, Predeclared, ErrorType, Defined, PointerTo, StructOf, InterfaceOf, Fields, NoField, AField, Methods, NoMethod, AMethod}
use Rattle.go_collections_core.specs.declared.spelling_index.spellings.Spelling.{Spelling}
use Rattle.go_collections_core.specs.spelling_index.Spelled.{spelling, joined, spelled_if, spelled_from, spelled, spelled_in, AreSpelled}
use Rattle.go_type_core.specs.table_core.Entries.{Member, same_id, has_method}
use Rattle.go_type_core.specs.table_core.MemberNames.{field_names, method_names, term_names}
use Rattle.go_embed_core.specs.declared.indexed.Place.{Place}
use Rattle.go_embed_core.specs.declared.indexed.Place.TheVariants as places
use Rattle.go_embed_core.specs.Owners.{Found, fields_found, methods_found, declared_found, term_found, is_spelled_in, nobody}
use Rattle.go_embed_core.specs.mirrors.Places.{place_found, hit_found, tally_at}
use Rattle.go_embed_core.specs.mirrors.Tallies.{Tally, NoHit, OneHit, ManyHits, together, hit_if, tallies}

same_bytes : (x y : List ℕ) → bytes_eq x y ≡ true → x ≡ y
same_bytes x y h = (bytes_eq-Decides x y).0 h

bytes_turned : (x y : List ℕ) → bytes_eq x y ≡ bytes_eq y x
bytes_turned x y = by (bytes_eq x y) (bytes_eq y x) refl refl
  where
    by : (b c : Bool) → bytes_eq x y ≡ b → bytes_eq y x ≡ c → b ≡ c
    by true true h k = refl
    by false false h k = refl
    by true false h k = absurd (true≢false (sym ((bytes_eq-Decides y x).1 (sym (same_bytes x y h))) ∙ k))
    by false true h k = absurd (true≢false (sym ((bytes_eq-Decides x y).1 (sym (same_bytes y x k))) ∙ h))

-- 1. The hits of a list.

-- where a name stands in a list from a number on, and what the list counts
abbrev IsCountedAt : {X : Type 0} → (X → Found) → ℕ → List X → Option Spelling → Tally → Type 0
IsCountedAt fd k xs None t = t ≡ NoHit
IsCountedAt {X} fd k xs (Some s) t = (i : ℕ) × (x : X) × (s.first ≡ i + k) × (slice_get xs i ≡ Some x) × (t ≡ (if s.is_repeated then ManyHits else OneHit (fd x)))

twice : (f g : Found) (b : Bool) (t : Tally) → t ≡ (if b then ManyHits else OneHit g) → together (OneHit f) t ≡ ManyHits
twice f g true t h = ap (together (OneHit f)) h
twice f g false t h = ap (together (OneHit f)) h

module _ {X : Type 0} (nm : X → List ℕ) (fd : X → Found) (path name from : List ℕ) where
  -- an item of another name does not count, and one of the name counts as the name does
  other_name : (x : X) → bytes_eq name (nm x) ≡ false → hit_if (same_id (nm x) path name from) (fd x) ≡ NoHit
  other_name x h = ap (λ b. hit_if (b && (exported (chars (nm x)) || bytes_eq path from)) (fd x)) (bytes_turned (nm x) name ∙ h)

  own_name : (x : X) (same : Bool) → same_id name path name from ≡ same → bytes_eq name (nm x) ≡ true → hit_if (same_id (nm x) path name from) (fd x) ≡ hit_if same (fd x)
  own_name x same e h = ap (λ n. hit_if (same_id n path name from) (fd x)) (sym (same_bytes name (nm x) h)) ∙ ap (λ b. hit_if b (fd x)) e

  -- the identifier names none of the list
  no_hits : (xs : List X) → same_id name path name from ≡ false → tallies (λ x. hit_if (same_id (nm x) path name from) (fd x)) xs ≡ NoHit
  no_hits [] e = refl
  no_hits (x ∷ xs) e = ap (λ t. together t (tallies (λ y. hit_if (same_id (nm y) path name from) (fd y)) xs)) (by (bytes_eq name (nm x)) refl) ∙ no_hits xs e
    where
      by : (b : Bool) → bytes_eq name (nm x) ≡ b → hit_if (same_id (nm x) path name from) (fd x) ≡ NoHit
      by true h = own_name x false e h
      by false h = other_name x h

  counted_at : (k : ℕ) (xs : List X) → same_id name path name from ≡ true → IsCountedAt fd k xs (spelled_from k (map nm xs) name) (tallies (λ x. hit_if (same_id (nm x) path name from) (fd x)) xs)
  counted_at k [] e = refl
  counted_at k (x ∷ xs) e = by (bytes_eq name (nm x)) refl (spelled_from (k + 1) (map nm xs) name) (tallies (λ y. hit_if (same_id (nm y) path name from) (fd y)) xs) (counted_at (k + 1) xs e)
    where
      by : (b : Bool) → bytes_eq name (nm x) ≡ b → (o : Option Spelling) (t : Tally) → IsCountedAt fd (k + 1) xs o t → IsCountedAt fd k (x ∷ xs) (joined (spelled_if k b) o) (together (hit_if (same_id (nm x) path name from) (fd x)) t)
      by true h None t rest = (zero, x, omega arith, refl, ap (together (hit_if (same_id (nm x) path name from) (fd x))) rest ∙ ap (λ u. together u NoHit) (own_name x true e h))
      by true h (Some s) t rest = (zero, x, omega arith, refl, ap (λ u. together u t) (own_name x true e h) ∙ twice (fd x) (fd rest.1) s.is_repeated t rest.4)
      by false h None t rest = ap (λ u. together u t) (other_name x h) ∙ rest
      by false h (Some s) t rest = (suc rest.0, rest.1, omega (arith, rest.2), rest.3, ap (λ u. together u t) (other_name x h) ∙ rest.4)

  -- what a place in the index counts is what the list counts
  pub placed : (xs : List X) (ps : List (List ℕ × Spelling)) → AreSpelled ps (map nm xs) → (p : Place) → p ≡ place_found (same_id name path name from) (spelled_in ps name)
      → tally_at p (λ i. option_map fd (slice_get xs i)) ≡ tallies (λ x. hit_if (same_id (nm x) path name from) (fd x)) xs
  placed xs ps are p is =
      ap (λ (q : Place). tally_at q (λ i. option_map fd (slice_get xs i))) (is ∙ ap (place_found (same_id name path name from)) (are name)) ∙ by (same_id name path name from) refl
    where
      none : (o : Option Spelling) → tally_at (place_found false o) (λ i. option_map fd (slice_get xs i)) ≡ NoHit
      none None = refl
      none (Some s) = refl

      at : (b : Bool) (n i : ℕ) (x : X) (t : Tally) → n ≡ i → slice_get xs i ≡ Some x → t ≡ (if b then ManyHits else OneHit (fd x)) → tally_at (if b then places.More else places.One n) (λ j. option_map fd (slice_get xs j)) ≡ t
      at true n i x t e q h = sym h
      at false n i x t e q h = ap (λ m. hit_found (option_map fd (slice_get xs m))) e ∙ (ap (λ o. hit_found (option_map fd o)) q ∙ sym h)

      there : (o : Option Spelling) (t : Tally) → IsCountedAt fd 0 xs o t → tally_at (place_found true o) (λ i. option_map fd (slice_get xs i)) ≡ t
      there None t h = sym h
      there (Some s) t h = at s.is_repeated s.first h.0 h.1 t (omega (arith, h.2)) h.3 h.4

      by : (b : Bool) → same_id name path name from ≡ b
          → tally_at (place_found b (spelled (map nm xs) name)) (λ i. option_map fd (slice_get xs i)) ≡ tallies (λ x. hit_if (same_id (nm x) path name from) (fd x)) xs
      by false e = none (spelled (map nm xs) name) ∙ sym (no_hits xs e)
      by true e = there (spelled (map nm xs) name) (tallies (λ x. hit_if (same_id (nm x) path name from) (fd x)) xs) (counted_at 0 xs e)

-- 2. Whether a name stands in a list.

some_step : (k : ℕ) (n name : List ℕ) (o : Option Spelling) (rest : Bool) → is_some o ≡ rest → is_some (joined (spelled_if k (bytes_eq name n)) o) ≡ (if bytes_eq n name then true else rest)
some_step k n name o rest h = ap (λ b. is_some (joined (spelled_if k b) o)) (bytes_turned name n) ∙ by (bytes_eq n name) o h
  where
    by : (b : Bool) (p : Option Spelling) → is_some p ≡ rest → is_some (joined (spelled_if k b) p) ≡ (if b then true else rest)
    by true None q = refl
    by true (Some s) q = refl
    by false p q = q

declared_spelled : (k : ℕ) (path name : List ℕ) (ms : List Member) → is_some (spelled_from k (map (λ m. m.name) ms) name) ≡ is_spelled_in (declared_found path ms) name
declared_spelled k path name [] = refl
declared_spelled k path name (m ∷ ms) = some_step k m.name name (spelled_from (k + 1) (map (λ n. n.name) ms) name) (is_spelled_in (declared_found path ms) name) (declared_spelled (k + 1) path name ms)

fields_spelled : (k : ℕ) (path name : List ℕ) (fs : Fields) → is_some (spelled_from k (field_names fs) name) ≡ is_spelled_in (fields_found nobody path fs) name
fields_spelled k path name NoField = refl
fields_spelled k path name (AField n place embedded t tag fs) = some_step k n name (spelled_from (k + 1) (field_names fs) name) (is_spelled_in (fields_found nobody path fs) name) (fields_spelled (k + 1) path name fs)

methods_spelled : (k : ℕ) (path name : List ℕ) (ms : Methods) → is_some (spelled_from k (method_names ms) name) ≡ is_spelled_in (methods_found path ms) name
methods_spelled k path name NoMethod = refl
methods_spelled k path name (AMethod n place g ms) = some_step k n name (spelled_from (k + 1) (method_names ms) name) (is_spelled_in (methods_found path ms) name) (methods_spelled (k + 1) path name ms)

term_spelled : (name : List ℕ) (t : Term) → is_some (spelled (term_names t) name) ≡ is_spelled_in (term_found nobody t) name
term_spelled name NoType = refl
term_spelled name (Predeclared b) = refl
term_spelled name ErrorType = some_step 0 (codes "Error") name None false refl
term_spelled name (Defined k) = refl
term_spelled name (PointerTo t) = refl
term_spelled name (StructOf path fs) = fields_spelled 0 path name fs
term_spelled name (InterfaceOf path ms) = methods_spelled 0 path name ms

pub declared_named : (path name : List ℕ) (ms : List Member) (ps : List (List ℕ × Spelling)) → AreSpelled ps (map (λ m. m.name) ms) → is_some (spelled_in ps name) ≡ is_spelled_in (declared_found path ms) name
declared_named path name ms ps are = ap is_some (are name) ∙ declared_spelled 0 path name ms

pub term_named : (name : List ℕ) (t : Term) (ps : List (List ℕ × Spelling)) → AreSpelled ps (term_names t) → is_some (spelled_in ps name) ≡ is_spelled_in (term_found nobody t) name
term_named name t ps are = ap is_some (are name) ∙ term_spelled name t

-- 3. Whether a method has an identifier.

had_step : (k : ℕ) (same r : Bool) (o : Option Spelling) → r ≡ is_some o && same → same || r ≡ is_some (joined (Some (spelling k false)) o) && same
had_step k true r None h = refl
had_step k true r (Some s) h = refl
had_step k false r None h = h
had_step k false r (Some s) h = h

had : (k : ℕ) (path name from : List ℕ) (ms : List Member) → has_method path ms name from ≡ is_some (spelled_from k (map (λ m. m.name) ms) name) && same_id name path name from
had k path name from [] = refl
had k path name from (m ∷ ms) = by (bytes_eq name m.name) refl (had (k + 1) path name from ms)
  where
    rest : Option Spelling
    rest = spelled_from (k + 1) (map (λ n. n.name) ms) name

    by : (b : Bool) → bytes_eq name m.name ≡ b → has_method path ms name from ≡ is_some rest && same_id name path name from
        → same_id m.name path name from || has_method path ms name from ≡ is_some (joined (spelled_if k b) rest) && same_id name path name from
    by true h r =
        ap (λ n. same_id n path name from || has_method path ms name from) (sym (same_bytes name m.name h))
        ∙ had_step k (same_id name path name from) (has_method path ms name from) rest r
    by false h r = ap (λ b. (b && (exported (chars m.name) || bytes_eq path from)) || has_method path ms name from) (bytes_turned m.name name ∙ h) ∙ r

pub had_named : (path name from : List ℕ) (ms : List Member) (ps : List (List ℕ × Spelling)) → AreSpelled ps (map (λ m. m.name) ms) → is_some (spelled_in ps name) && same_id name path name from ≡ has_method path ms name from
had_named path name from ms ps are = ap (λ o. is_some o && same_id name path name from) (are name) ∙ sym (had 0 path name from ms)
