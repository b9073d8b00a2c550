-- Fields by their names, and the earliest place of each name.
use Rattle.std.proofs.Common.{◌≡◌, ℕ, ◌+◌, ◌<◌, ◌≤◌, Bool, true, false, ◌&&◌, ◌||◌, not, ◌⊎◌, inl, inr, List, [], ◌∷◌, length, map, drop, get_or, Option, Some, None, is_some, refl, sym, ap, ◌∙◌, subst, arith, cond, if◌then◌else◌}
use Rattle.std.specs.Prelude.{nat_lt, nat_eq}
use Rattle.std.specs.Bool.{Decides}
use Rattle.std.specs.Cmp.{both_ways}
use Rattle.std.specs.Str.{bytes_eq, chars}
use Rattle.std.specs.BTreeMap.{BTreeMap, Updates}
use Rattle.std.specs.Cmp.Lexicographic.{slice_cmp}
use Rattle.std.specs.Ordering.{is_eq, nat_cmp}
use Rattle.std.specs.Map.{lookup}
use Rattle.std.specs.Borrow.{Bor}
use Rattle.std.proofs.lemmas.Bool.{true≢false, cases_lt}
use Rattle.std.proofs.lemmas.Bool.Decides.{Decides-and, Decides-or, Decides-ltb, Decides-eqb}
use Rattle.std.proofs.lemmas.List.{drop_more, drop_all}
use Rattle.std.proofs.lemmas.Map.Text.{btree_map_updates_str, is_eq-slice_cmp}
use Rattle.go_collections_core.specs.text_core.Text.{exported}
use Rattle.go_term_core.specs.declared.term.Field.{Field}
use Rattle.go_term_core.specs.declared.term.MemberPlace.{MemberPlace}
use Rattle.go_term_core.specs.declared.term.MemberPlace.TheVariants as places
use Rattle.go_term_core.specs.Shapes.{Line, fields_in}
use Rattle.go_term_core.specs.Terms.{Term, NoType, Predeclared, ErrorType, Defined, PointerTo, StructOf, InterfaceOf, Fields, NoField, AField}
use Rattle.go_term_core.proofs.SettlingNames.{bytes_same as same_bytes}
use Rattle.go_table_core.specs.declared.entry.DeclaredMethod.{DeclaredMethod}
use Rattle.go_table_core.specs.declared.fields.Spot.{Spot}
use Rattle.go_table_core.specs.declared.fields.Earliest.{Earliest}
use Rattle.go_table_core.specs.Entries.{Member, has_method}
use Rattle.go_table_core.specs.Methods.{is_before, field_before, has_field_before, field_spelled, term_fields}
use Rattle.go_table_core.specs.Shown.{member_shown, hides_field, hides_some}
use Rattle.go_table_core.specs.mirrors.Spots.{spot, earliest, spot_before, some_before, earlier_of, earliest_with, earliest_before, found_or_none, found_before, named_places, found_places, named_before, struct_path, HasPlaces, HasPlacesSoFar, AddsField, spells_some}
use Rattle.go_table_core.proofs.Finding.{bytes_same, bytes_turned}

or_false : (b : Bool) → b ≡ b || false
or_false true = refl
or_false false = refl

or_assoc : (a b c : Bool) → (a || b) || c ≡ a || (b || c)
or_assoc true b c = refl
or_assoc false b c = refl

or_true : (b : Bool) → true ≡ b || true
or_true true = refl
or_true false = refl

or_left : (a b : Bool) → a || b ≡ false → a ≡ false
or_left true b h = h
or_left false b h = refl

or_right : (a b : Bool) → a || b ≡ false → b ≡ false
or_right true b h = absurd (true≢false h)
or_right false b h = h

-- spots

abbrev Before : Spot → Spot → Type 0
Before a b = (a.file < b.file) ⊎ ((a.file ≡ b.file) × (a.at < b.at))

pub before_decides : (a b : Spot) → Decides (spot_before a b) (Before a b)
before_decides a b =
    Decides-or (nat_lt a.file b.file) (nat_eq a.file b.file && nat_lt a.at b.at) (Decides-ltb a.file b.file)
    (Decides-and (nat_eq a.file b.file) (nat_lt a.at b.at) (Decides-eqb a.file b.file) (Decides-ltb a.at b.at))

pub before_trans : (a b c : Spot) → Before a b → Before b c → Before a c
before_trans a b c (inl x) (inl y) = inl (omega arith)
before_trans a b c (inl x) (inr y) = inl (omega arith)
before_trans a b c (inr x) (inl y) = inl (omega arith)
before_trans a b c (inr x) (inr y) = inr (omega arith, omega arith)

before_upto : (f s q : Spot) → (Before s f → ⊥) → Before s q → Before f q
before_upto f s q later h = elim (cases_lt s.file f.file) [
  | inl lower ↦ absurd (later (inl lower))
  | inr files ↦ elim (cases_lt f.file s.file) [
    | inl below ↦ before_trans f s q (inl below) h
    | inr level ↦ elim (cases_lt s.at f.at) [
      | inl first ↦ absurd (later (inr (omega (arith, files, level), first)))
      | inr last ↦ elim h [
        | inl x ↦ inl (omega (arith, files, level, x))
        | inr y ↦ inr (omega (arith, files, level, y.0), omega (arith, last, y.1))
      ]
    ]
  ]
]

or_before : (f s q : Spot) → spot_before (if spot_before s f then s else f) q ≡ spot_before f q || spot_before s q
or_before f s q = by (spot_before s f) refl
  where
    left : Decides (spot_before f q || spot_before s q) (Before f q ⊎ Before s q)
    left = Decides-or (spot_before f q) (spot_before s q) (before_decides f q) (before_decides s q)

    by : (b : Bool) → spot_before s f ≡ b → spot_before (if b then s else f) q ≡ spot_before f q || spot_before s q
    by true e =
        both_ways (spot_before s q) (spot_before f q || spot_before s q)
        (λ h. left.1 (inr ((before_decides s q).0 h)))
        (λ h. elim (left.0 h) [
          | inl x ↦ (before_decides s q).1 (before_trans s f q ((before_decides s f).0 e) x)
          | inr y ↦ (before_decides s q).1 y
        ])
    by false e =
        both_ways (spot_before f q) (spot_before f q || spot_before s q)
        (λ h. left.1 (inl ((before_decides f q).0 h)))
        (λ h. elim (left.0 h) [
          | inl x ↦ (before_decides f q).1 x
          | inr y ↦ (before_decides f q).1 (before_upto f s q (λ k. true≢false (sym ((before_decides s f).1 k) ∙ e)) y)
        ])

earlier_before : (o : Option Spot) (s q : Spot) → spot_before (earlier_of o s) q ≡ some_before o q || spot_before s q
earlier_before None s q = refl
earlier_before (Some f) s q = or_before f s q

with_before : (e : Earliest) (p q : MemberPlace) → earliest_before (earliest_with e p) q ≡ earliest_before e q || is_before p q
with_before e (places.Declared a) (places.Declared b) = earlier_before e.declared (spot a.file a.number) (spot b.file b.number)
with_before e (places.Declared a) (places.Local b) = or_false (some_before e.local (spot b.file b.offset))
with_before e (places.Local a) (places.Declared b) = or_false (some_before e.declared (spot b.file b.number))
with_before e (places.Local a) (places.Local b) = earlier_before e.local (spot a.file a.offset) (spot b.file b.offset)

pub none_before : (q : MemberPlace) → earliest_before (earliest None None) q ≡ false
none_before (places.Declared d) = refl
none_before (places.Local p) = refl

-- one field more

added_before : (old new : List (List ℕ × Earliest)) (name : List ℕ) (place : MemberPlace) → AddsField old new name place → (other : List ℕ) (q : MemberPlace)
    → found_before (found_places new other) q ≡ found_before (found_places old other) q || (bytes_eq other name && is_before place q)
added_before old new name place adds other q = ap (λ o. found_before o q) (adds.at other) ∙ by (bytes_eq other name)
  where
    by : (b : Bool) → found_before (if b then Some (earliest_with (found_or_none (found_places old other)) place) else found_places old other) q ≡ found_before (found_places old other) q || (b && is_before place q)
    by true = with_before (found_or_none (found_places old other)) place q
    by false = or_false (found_before (found_places old other) q)

added_spelled : (old new : List (List ℕ × Earliest)) (name : List ℕ) (place : MemberPlace) → AddsField old new name place → (other : List ℕ)
    → is_some (found_places new other) ≡ is_some (found_places old other) || bytes_eq other name
added_spelled old new name place adds other = ap is_some (adds.at other) ∙ by (bytes_eq other name)
  where
    by : (b : Bool) → is_some (if b then Some (earliest_with (found_or_none (found_places old other)) place) else found_places old other) ≡ is_some (found_places old other) || b
    by true = or_true (is_some (found_places old other))
    by false = or_false (is_some (found_places old other))

field_step : (ls : List Line) (old new : List (List ℕ × Earliest)) (f : Field) (rest : List Field) (all : Fields) → HasPlacesSoFar old (fields_in ls (f ∷ rest)) all → AddsField old new f.name f.place → HasPlacesSoFar new (fields_in ls rest) all
field_step ls old new f rest all so_far adds = record {
  before = λ name q.
      ap (λ b. b || named_before (fields_in ls rest) name q) (added_before old new f.name f.place adds name q)
      ∙ (or_assoc (found_before (found_places old name) q) (bytes_eq name f.name && is_before f.place q) (named_before (fields_in ls rest) name q) ∙ so_far.before name q);
  spelled = λ name.
      ap (λ b. b || field_spelled (fields_in ls rest) name) (added_spelled old new f.name f.place adds name)
      ∙ (or_assoc (is_some (found_places old name)) (bytes_eq name f.name) (field_spelled (fields_in ls rest) name) ∙ so_far.spelled name);
}

pub places_start : (all : Fields) → HasPlacesSoFar [] all all
places_start all = record { before = λ name q. ap (λ b. b || named_before all name q) (none_before q); spelled = λ name. refl }

pub places_step : (ls : List Line) (old new : List (List ℕ × Earliest)) (fs : List Field) (i : ℕ) (f : Field) (all : Fields) → i < length fs → f ≡ get_or fs i f → HasPlacesSoFar old (fields_in ls (drop i fs)) all → AddsField old new f.name f.place → HasPlacesSoFar new (fields_in ls (drop (i + 1) fs)) all
places_step ls old new fs i f all lt is so_far adds =
    let split : drop i fs ≡ f ∷ drop (i + 1) fs = drop_more fs i f lt ∙ ap (λ x. x ∷ drop (i + 1) fs) (sym is) in
    field_step ls old new f (drop (i + 1) fs) all (subst (λ (l : List Field). HasPlacesSoFar old (fields_in ls l) all) split so_far) adds

pub places_end : (ls : List Line) (ps : List (List ℕ × Earliest)) (fs : List Field) (i : ℕ) (all : Fields) → length fs ≤ i → HasPlacesSoFar ps (fields_in ls (drop i fs)) all → HasPlaces ps all
places_end ls ps fs i all past so_far =
    let done : HasPlacesSoFar ps NoField all = subst (λ (l : List Field). HasPlacesSoFar ps (fields_in ls l) all) (drop_all i fs past) so_far in
    record {
      before = λ name q. or_false (found_before (found_places ps name) q) ∙ done.before name q;
      spelled = λ name. or_false (is_some (found_places ps name)) ∙ done.spelled name;
    }

-- tables over names behind references

pub in_names : (name : List ℕ) (es : List (Bor (List ℕ) × Earliest)) → lookup (λ k. is_eq (slice_cmp nat_cmp name k.now)) es ≡ found_places (map (λ e. (e.0.now, e.1)) es) name
in_names name [] = refl
in_names name (e ∷ es) =
    ap (λ b. cond b (Some e.1) (lookup (λ k. is_eq (slice_cmp nat_cmp name k.now)) es)) (is_eq-slice_cmp name e.0.now)
    ∙ ap (λ o. cond (bytes_eq name e.0.now) (Some e.1) o) (in_names name es)

pub adds_field : (old new : BTreeMap (Bor (List ℕ)) Earliest) (k : Bor (List ℕ)) (name : List ℕ) (so_far v : Earliest) (place : MemberPlace)
    → k.now ≡ name → Updates (λ x y. slice_cmp nat_cmp x.now y.now) old new k (Some v) → so_far ≡ found_or_none (found_places (named_places old) name) → v ≡ earliest_with so_far place
    → AddsField (named_places old) (named_places new) name place
adds_field old new k name so_far v place is put before now = record {
  at = λ other.
      sym (in_names other new.entries)
      ∙ (btree_map_updates_str k.now old new (Some v) put other
      ∙ (ap (cond (bytes_eq k.now other) (Some v)) (in_names other old.entries)
      ∙ (ap (λ n. cond (bytes_eq n other) (Some v) (found_places (named_places old) other)) is
      ∙ by other (bytes_eq name other) refl)));
}
  where
    by : (other : List ℕ) (b : Bool) → bytes_eq name other ≡ b → cond b (Some v) (found_places (named_places old) other) ≡ (if bytes_eq other name then Some (earliest_with (found_or_none (found_places (named_places old) other)) place) else found_places (named_places old) other)
    by other true h =
        let same : name ≡ other = same_bytes name other h in
        ap Some (now ∙ ap (λ s. earliest_with s place) (before ∙ ap (λ n. found_or_none (found_places (named_places old) n)) same))
        ∙ sym (ap (λ t. if t then Some (earliest_with (found_or_none (found_places (named_places old) other)) place) else found_places (named_places old) other) (bytes_same other name (sym same)))
    by other false h =
        sym (ap (λ t. if t then Some (earliest_with (found_or_none (found_places (named_places old) other)) place) else found_places (named_places old) other) (bytes_turned name other h))

-- a field before a method

field_test : (n name home path : List ℕ) (place q : MemberPlace) (s : Bool) → bytes_eq home path ≡ s
    → (bytes_eq n name && (exported (chars n) || s)) && (not s || is_before place q) ≡ (if s then bytes_eq name n && is_before place q else bytes_eq name n && exported (chars name))
field_test n name home path place q s is = by s (bytes_eq n name) refl
  where
    both : (a b : Bool) → (a || true) && b ≡ b
    both true b = refl
    both false b = refl

    alone : (a : Bool) → (a || false) && true ≡ a
    alone true = refl
    alone false = refl

    by : (s t : Bool) → bytes_eq n name ≡ t → (t && (exported (chars n) || s)) && (not s || is_before place q) ≡ (if s then bytes_eq name n && is_before place q else bytes_eq name n && exported (chars name))
    by true true e = both (exported (chars n)) (is_before place q) ∙ ap (λ b. b && is_before place q) (sym (bytes_same name n (sym (same_bytes n name e))))
    by false true e =
        alone (exported (chars n))
        ∙ (ap (λ x. exported (chars x)) (same_bytes n name e) ∙ ap (λ b. b && exported (chars name)) (sym (bytes_same name n (sym (same_bytes n name e)))))
    by true false e = ap (λ b. b && is_before place q) (sym (bytes_turned n name e))
    by false false e = ap (λ b. b && exported (chars name)) (sym (bytes_turned n name e))

and_or : (a b c : Bool) → (a && c) || (b && c) ≡ (a || b) && c
and_or true b true = refl
and_or true true false = refl
and_or true false false = refl
and_or false b c = refl

fields_before : (path home : List ℕ) (fs : Fields) (m : Member) → field_before path home fs m ≡ (if bytes_eq home path then named_before fs m.name m.place else field_spelled fs m.name && exported (chars m.name))
fields_before path home NoField m = by (bytes_eq home path)
  where
    by : (s : Bool) → false ≡ (if s then false else false)
    by true = refl
    by false = refl
fields_before path home (AField n place embedded t tag fs) m =
    ap (λ b. b || field_before path home fs m) (field_test n m.name home path place m.place (bytes_eq home path) refl)
    ∙ (ap (λ b. (if bytes_eq home path then bytes_eq m.name n && is_before place m.place else bytes_eq m.name n && exported (chars m.name)) || b) (fields_before path home fs m)
    ∙ by (bytes_eq home path))
  where
    by : (s : Bool) → (if s then bytes_eq m.name n && is_before place m.place else bytes_eq m.name n && exported (chars m.name)) || (if s then named_before fs m.name m.place else field_spelled fs m.name && exported (chars m.name))
        ≡ (if s then (bytes_eq m.name n && is_before place m.place) || named_before fs m.name m.place else (bytes_eq m.name n || field_spelled fs m.name) && exported (chars m.name))
    by true = refl
    by false = and_or (bytes_eq m.name n) (field_spelled fs m.name) (exported (chars m.name))

no_struct : (path : List ℕ) (t : Term) (m : Member) → struct_path t ≡ None → has_field_before path t m ≡ false
no_struct path NoType m h = refl
no_struct path (Predeclared b) m h = refl
no_struct path ErrorType m h = refl
no_struct path (Defined k) m h = refl
no_struct path (PointerTo t) m h = refl
no_struct path (StructOf home fs) m h = absurd (let no : Some home ≡ None = h in cc)
no_struct path (InterfaceOf home ms) m h = refl

pub not_before : (fs : Fields) (name : List ℕ) (q : MemberPlace) → field_spelled fs name ≡ false → named_before fs name q ≡ false
not_before NoField name q h = refl
not_before (AField n place embedded t tag fs) name q h =
    ap (λ b. (b && is_before place q) || named_before fs name q) (or_left (bytes_eq name n) (field_spelled fs name) h)
    ∙ not_before fs name q (or_right (bytes_eq name n) (field_spelled fs name) h)

-- no field is spelled as the method
pub none_before_method : (path : List ℕ) (t : Term) (m : Member) → field_spelled (term_fields t) m.name ≡ false → false ≡ has_field_before path t m
none_before_method path NoType m h = refl
none_before_method path (Predeclared b) m h = refl
none_before_method path ErrorType m h = refl
none_before_method path (Defined k) m h = refl
none_before_method path (PointerTo t) m h = refl
none_before_method path (StructOf home fs) m h = sym (fields_before path home fs m ∙ by (bytes_eq home path))
  where
    by : (s : Bool) → (if s then named_before fs m.name m.place else field_spelled fs m.name && exported (chars m.name)) ≡ false
    by true = not_before fs m.name m.place h
    by false = ap (λ b. b && exported (chars m.name)) h
none_before_method path (InterfaceOf home ms) m h = refl

-- a type that is no struct type has no fields
pub no_fields : (path : List ℕ) (t : Term) (m : Member) → struct_path t ≡ None → false ≡ has_field_before path t m
no_fields path t m h = sym (no_struct path t m h)

-- a struct type of the same package, and of another
pub before_method : (path home : List ℕ) (t : Term) (m : Member) (s : Bool) → struct_path t ≡ Some home → bytes_eq home path ≡ s → has_field_before path t m ≡ (if s then named_before (term_fields t) m.name m.place else field_spelled (term_fields t) m.name && exported (chars m.name))
before_method path home NoType m s h e = absurd (let no : None ≡ Some home = h in cc)
before_method path home (Predeclared b) m s h e = absurd (let no : None ≡ Some home = h in cc)
before_method path home ErrorType m s h e = absurd (let no : None ≡ Some home = h in cc)
before_method path home (Defined k) m s h e = absurd (let no : None ≡ Some home = h in cc)
before_method path home (PointerTo t) m s h e = absurd (let no : None ≡ Some home = h in cc)
before_method path home (StructOf own fs) m s h e =
    let same : own ≡ home = cc in
    fields_before path own fs m ∙ ap (λ b. if b then named_before fs m.name m.place else field_spelled fs m.name && exported (chars m.name)) (ap (λ p. bytes_eq p path) same ∙ e)
before_method path home (InterfaceOf own ms) m s h e = absurd (let no : None ≡ Some home = h in cc)

-- what hides fields

spells_parts : (ms : List Member) (n : List ℕ) (place : MemberPlace) (embedded : Bool) (t : Term) (tag : List ℕ) (fs : Fields) → spells_some ms (AField n place embedded t tag fs) ≡ false → (from path : List ℕ) → (has_method path ms n from ≡ false) × (spells_some ms fs ≡ false)
spells_parts [] n place embedded t tag fs h from path = (refl, refl)
spells_parts (m ∷ ms) n place embedded t tag fs h from path =
    let head = or_left (bytes_eq m.name n || field_spelled fs m.name) (spells_some ms (AField n place embedded t tag fs)) h in
    let rest = spells_parts ms n place embedded t tag fs (or_right (bytes_eq m.name n || field_spelled fs m.name) (spells_some ms (AField n place embedded t tag fs)) h) from path in (
      ap (λ b. (b && (exported (chars m.name) || bytes_eq path from)) || has_method path ms n from) (or_left (bytes_eq m.name n) (field_spelled fs m.name) head) ∙ rest.0,
      ap (λ b. b || spells_some ms fs) (or_right (bytes_eq m.name n) (field_spelled fs m.name) head) ∙ rest.1,
    )

hides_no_field : (path : List ℕ) (ms : List Member) (home : List ℕ) (fs : Fields) → spells_some ms fs ≡ false → hides_field path ms home fs ≡ false
hides_no_field path ms home NoField h = refl
hides_no_field path ms home (AField n place embedded t tag fs) h =
    let parts = spells_parts ms n place embedded t tag fs h home path in
    ap (λ b. b || hides_field path ms home fs) parts.0 ∙ hides_no_field path ms home fs parts.1

pub hides_none : (path : List ℕ) (ms : List Member) (t : Term) → spells_some ms (term_fields t) ≡ false → hides_some path ms t ≡ false
hides_none path ms NoType h = refl
hides_none path ms (Predeclared b) h = refl
hides_none path ms ErrorType h = refl
hides_none path ms (Defined k) h = refl
hides_none path ms (PointerTo t) h = refl
hides_none path ms (StructOf home fs) h = hides_no_field path ms home fs h
hides_none path ms (InterfaceOf home ns) h = refl

-- no method
pub spells_nothing : (fs : Fields) → spells_some [] fs ≡ false
spells_nothing fs = refl

-- what a table of names answers of a method

pub earlier_field : (t : Term) (path home : List ℕ) (m : Member) → struct_path t ≡ Some home → home ≡ path → named_before (term_fields t) m.name m.place ≡ has_field_before path t m
earlier_field t path home m is same = sym (before_method path home t m true is (bytes_same home path same))

pub foreign_field : (t : Term) (path home : List ℕ) (m : Member) → struct_path t ≡ Some home → (home ≡ path → ⊥) → field_spelled (term_fields t) m.name && exported (chars m.name) ≡ has_field_before path t m
foreign_field t path home m is apart = sym (before_method path home t m false is (differ (bytes_eq home path) refl))
  where
    differ : (b : Bool) → bytes_eq home path ≡ b → bytes_eq home path ≡ false
    differ true e = absurd (apart (same_bytes home path e))
    differ false e = e

-- a loop over methods

module _ (ms : List DeclaredMethod) (i : ℕ) (m : DeclaredMethod) (fs : Fields) (all : Bool) (lt : i < length ms) (is : m ≡ get_or ms i m) (was : spells_some (map member_shown (drop i ms)) fs ≡ all) where
  one_off : field_spelled fs m.name || spells_some (map member_shown (drop (i + 1) ms)) fs ≡ all
  one_off =
      let split : drop i ms ≡ m ∷ drop (i + 1) ms = drop_more ms i m lt ∙ ap (λ x. x ∷ drop (i + 1) ms) (sym is) in
      ap (λ l. spells_some (map member_shown l) fs) (sym split) ∙ was

  pub spells_step : field_spelled fs m.name ≡ false → spells_some (map member_shown (drop (i + 1) ms)) fs ≡ all
  spells_step off = sym (ap (λ b. b || spells_some (map member_shown (drop (i + 1) ms)) fs) off) ∙ one_off

  pub spells_found : field_spelled fs m.name ≡ true → true ≡ all
  spells_found found = sym (ap (λ b. b || spells_some (map member_shown (drop (i + 1) ms)) fs) found) ∙ one_off

pub spells_end : (ms : List DeclaredMethod) (i : ℕ) (fs : Fields) (all : Bool) → length ms ≤ i → spells_some (map member_shown (drop i ms)) fs ≡ all → false ≡ all
spells_end ms i fs all past was = ap (λ l. spells_some (map member_shown l) fs) (sym (drop_all i ms past)) ∙ was
