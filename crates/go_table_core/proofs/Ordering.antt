-- Fields in order of their places, found by an index of their names.
use Rattle.std.proofs.Common.{◌≡◌, ℕ, zero, suc, ◌+◌, ◌<◌, ◌≤◌, Bool, true, false, ◌&&◌, ◌||◌, inl, inr, List, [], ◌∷◌, length, drop, get_or, Option, Some, None, is_some, refl, sym, ap, ◌∙◌, arith}
use Rattle.std.specs.Prelude.{slice_get}
use Rattle.std.specs.Borrow.{Bor}
use Rattle.std.specs.Slice.{IsItemAt}
use Rattle.std.specs.Str.{bytes_eq}
use Rattle.std.proofs.lemmas.Bool.{true≢false, or_cases, and_parts}
use Rattle.std.proofs.lemmas.List.{drop_more, drop_all}
use Rattle.std.proofs.lemmas.Option.{slice_get_past, slice_get_read}
use Rattle.go_collections_core.specs.declared.spelling_index.spellings.Spelling.{Spelling}
use Rattle.go_collections_core.specs.spelling_index.Spelled.{joined, spelled_if, spelled_from, spelled_in}
use Rattle.go_term_core.specs.declared.term.Field.{Field}
use Rattle.go_term_core.specs.declared.term.MemberPlace.{MemberPlace}
use Rattle.go_term_core.specs.declared.term.MemberPlace.TheVariants as places
use Rattle.go_term_core.specs.Shapes.{Line, fields_in}
use Rattle.go_term_core.specs.Terms.{Fields, NoField, AField}
use Rattle.go_table_core.specs.MemberNames.{field_names}
use Rattle.go_table_core.specs.Methods.{is_before, field_spelled}
use Rattle.go_table_core.specs.mirrors.Ordered.{has_order, is_after, nth_before, spelled_before, IsFieldIndex}
use Rattle.go_table_core.specs.mirrors.Spots.{spot, named_before}
use Rattle.go_table_core.proofs.Spelled.{before_decides, before_trans, not_before}

-- a name that is found, and whether it is

spelled_some : (k : ℕ) (fs : Fields) (name : List ℕ) → is_some (spelled_from k (field_names fs) name) ≡ field_spelled fs name
spelled_some k NoField name = refl
spelled_some k (AField n place embedded t tag fs) name =
    by (bytes_eq name n) (spelled_from (k + 1) (field_names fs) name) ∙ ap (λ b. bytes_eq name n || b) (spelled_some (k + 1) fs name)
  where
    by : (b : Bool) (r : Option Spelling) → is_some (joined (spelled_if k b) r) ≡ b || is_some r
    by true None = refl
    by true (Some s) = refl
    by false r = refl

pub indexed_spelled : (ps : List (List ℕ × Spelling)) (fs : Fields) (name : List ℕ) → IsFieldIndex ps fs → is_some (spelled_in ps name) ≡ field_spelled fs name
indexed_spelled ps fs name is = ap is_some (is.spelled name) ∙ spelled_some 0 fs name

-- the first of fields in order stands before a place where one of them does

place_trans : (a b q : MemberPlace) → is_before a b ≡ true → is_before b q ≡ true → is_before a q ≡ true
place_trans (places.Declared a) (places.Declared b) (places.Declared q) h k =
    let sa = spot a.file a.number in
    let sb = spot b.file b.number in
    let sq = spot q.file q.number in
    (before_decides sa sq).1 (before_trans sa sb sq ((before_decides sa sb).0 h) ((before_decides sb sq).0 k))
place_trans (places.Local a) (places.Local b) (places.Local q) h k =
    let sa = spot a.file a.offset in
    let sb = spot b.file b.offset in
    let sq = spot q.file q.offset in
    (before_decides sa sq).1 (before_trans sa sb sq ((before_decides sa sb).0 h) ((before_decides sb sq).0 k))
place_trans (places.Declared a) (places.Local b) q h k = absurd (true≢false (sym h))
place_trans (places.Local a) (places.Declared b) q h k = absurd (true≢false (sym h))
place_trans (places.Declared a) (places.Declared b) (places.Local q) h k = absurd (true≢false (sym k))
place_trans (places.Local a) (places.Local b) (places.Declared q) h k = absurd (true≢false (sym k))

first_before : (p : MemberPlace) (fs : Fields) (name : List ℕ) (q : MemberPlace) → has_order (Some p) fs ≡ true → named_before fs name q ≡ true → is_before p q ≡ true
first_before p NoField name q h k = absurd (true≢false (sym k))
first_before p (AField n place embedded t tag fs) name q h k =
    place_trans p place q (and_parts (is_before p place) (has_order (Some place) fs) h).0
    (elim (or_cases (bytes_eq name n && is_before place q) (named_before fs name q) k) [
      | inl here ↦ (and_parts (bytes_eq name n) (is_before place q) here).1
      | inr there ↦ first_before place fs name q (and_parts (is_before p place) (has_order (Some place) fs) h).1 there
    ])

absorbed : (a b : Bool) → (b ≡ true → a ≡ true) → a ≡ a || b
absorbed true b h = refl
absorbed false true h = h refl
absorbed false false h = refl

later : (k at : ℕ) (name : List ℕ) (place : MemberPlace) (n : List ℕ) (embedded : Bool) (t : _) (tag : List ℕ) (fs : Fields) (q : MemberPlace) (all : Bool) → k + 1 ≤ at
    → ((j : ℕ) → j + (k + 1) ≡ at → nth_before fs j q ≡ all) → (j : ℕ) → j + k ≡ at → nth_before (AField n place embedded t tag fs) j q ≡ all
later k at name place n embedded t tag fs q all low rest zero sum = absurd (omega (arith, low, sum))
later k at name place n embedded t tag fs q all low rest (suc j) sum = (let sum' : j + (k + 1) ≡ at = omega (arith, sum) in rest j sum')

place_found : (k : ℕ) (last : Option MemberPlace) (fs : Fields) (name : List ℕ) (q : MemberPlace) (s : Spelling) → has_order last fs ≡ true → spelled_from k (field_names fs) name ≡ Some s
    → (k ≤ s.first) × ((j : ℕ) → j + k ≡ s.first → nth_before fs j q ≡ named_before fs name q)
place_found k last NoField name q s h e = absurd (let no : None ≡ Some s = e in cc)
place_found k last (AField n place embedded t tag fs) name q s h e =
    let rest = (and_parts (is_after last place) (has_order (Some place) fs) h).1 in
    by (bytes_eq name n) (spelled_from (k + 1) (field_names fs) name) (λ r. place_found (k + 1) (Some place) fs name q s rest r) (first_before place fs name q rest) e
  where
    here : (r : Option Spelling) → joined (spelled_if k true) r ≡ Some s → k ≡ s.first
    here None h = cc
    here (Some x) h = cc

    at_first : (j : ℕ) → j ≡ 0 → nth_before (AField n place embedded t tag fs) j q ≡ is_before place q
    at_first j is = ap (λ i. nth_before (AField n place embedded t tag fs) i q) is

    by : (b : Bool) (r : Option Spelling) → (r ≡ Some s → (k + 1 ≤ s.first) × ((j : ℕ) → j + (k + 1) ≡ s.first → nth_before fs j q ≡ named_before fs name q)) → (named_before fs name q ≡ true → is_before place q ≡ true)
        → joined (spelled_if k b) r ≡ Some s → (k ≤ s.first) × ((j : ℕ) → j + k ≡ s.first → nth_before (AField n place embedded t tag fs) j q ≡ (b && is_before place q) || named_before fs name q)
    by true r rest first h =
        let is : k ≡ s.first = here r h in (
          omega arith,
          λ j sum. (let none : j ≡ 0 = omega (arith, sum, is) in at_first j none ∙ absorbed (is_before place q) (named_before fs name q) first),
        )
    by false r rest first h =
        let found = rest h in
        let low : k + 1 ≤ s.first = found.0 in (omega (arith, low), later k s.first name place n embedded t tag fs q (named_before fs name q) low found.1)

pub indexed_before : (ps : List (List ℕ × Spelling)) (fs : Fields) (name : List ℕ) (q : MemberPlace) (o : Option Spelling) → IsFieldIndex ps fs → o ≡ spelled_in ps name → spelled_before fs o q ≡ named_before fs name q
indexed_before ps fs name q None is e = sym (not_before fs name q (sym (indexed_spelled ps fs name is) ∙ sym (ap is_some e)))
indexed_before ps fs name q (Some s) is e = (let sum : s.first + 0 ≡ s.first = omega arith in (place_found 0 None fs name q s is.ordered (sym (e ∙ is.spelled name))).1 s.first sum)

-- the field of a number

nth_some : (ls : List Line) (fs : List Field) (i : ℕ) (f : Field) (q : MemberPlace) → slice_get fs i ≡ Some f → is_before f.place q ≡ nth_before (fields_in ls fs) i q
nth_some ls [] i f q h = absurd (let no : None ≡ Some f = h in cc)
nth_some ls (x ∷ fs) zero f q h = (let same : x ≡ f = cc in ap (λ (y : Field). is_before y.place q) (sym same))
nth_some ls (x ∷ fs) (suc i) f q h = nth_some ls fs i f q h

nth_none : (ls : List Line) (fs : List Field) (i : ℕ) (q : MemberPlace) → slice_get fs i ≡ None → false ≡ nth_before (fields_in ls fs) i q
nth_none ls [] i q h = refl
nth_none ls (x ∷ fs) zero q h = absurd (let no : Some x ≡ None = h in cc)
nth_none ls (x ∷ fs) (suc i) q h = nth_none ls fs i q h

pub item_before : (ls : List Line) (fs : List Field) (i : ℕ) (f : Bor Field) (q : MemberPlace) → IsItemAt fs i (Some f) → is_before f.now.place q ≡ nth_before (fields_in ls fs) i q
item_before ls fs i f q h = nth_some ls fs i f.now q (slice_get_read fs (length fs) i f.now refl h.3.0 (h.3.1 f.now))

pub no_item_before : (ls : List Line) (fs : List Field) (i : ℕ) (q : MemberPlace) → IsItemAt fs i None → false ≡ nth_before (fields_in ls fs) i q
no_item_before ls fs i q h = nth_none ls fs i q (slice_get_past fs i h.3)

-- a loop over fields

module _ (ls : List Line) (last : Option MemberPlace) (fs : List Field) (i : ℕ) (f : Field) (all : Bool) (lt : i < length fs) (is : f ≡ get_or fs i f) (was : has_order last (fields_in ls (drop i fs)) ≡ all) where
  one_off : is_after last f.place && has_order (Some f.place) (fields_in ls (drop (i + 1) fs)) ≡ all
  one_off =
      let split : drop i fs ≡ f ∷ drop (i + 1) fs = drop_more fs i f lt ∙ ap (λ x. x ∷ drop (i + 1) fs) (sym is) in
      ap (λ l. has_order last (fields_in ls l)) (sym split) ∙ was

  pub order_step : is_after last f.place ≡ true → has_order (Some f.place) (fields_in ls (drop (i + 1) fs)) ≡ all
  order_step on = sym (ap (λ b. b && has_order (Some f.place) (fields_in ls (drop (i + 1) fs))) on) ∙ one_off

  pub order_lost : is_after last f.place ≡ false → false ≡ all
  order_lost off = sym (ap (λ b. b && has_order (Some f.place) (fields_in ls (drop (i + 1) fs))) off) ∙ one_off

pub order_end : (ls : List Line) (last : Option MemberPlace) (fs : List Field) (i : ℕ) (all : Bool) → length fs ≤ i → has_order last (fields_in ls (drop i fs)) ≡ all → true ≡ all
order_end ls last fs i all past was = ap (λ l. has_order last (fields_in ls l)) (sym (drop_all i fs past)) ∙ was
