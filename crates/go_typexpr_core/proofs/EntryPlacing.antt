-- The place of an entry among entries whose keys rise.
use Rattle.std.proofs.Common.{◌≡◌, ℕ, zero, suc, ◌<◌, inl, inr, true, false, List, [], ◌∷◌, length, get_or, map, Some, None, option_map, refl, sym, ap, ◌∙◌, subst, arith}
use Rattle.std.specs.Prelude.{slice_get}
use Rattle.std.specs.List.Sorted.{IsPartitionPoint, IsPartitionedBy}
use Rattle.std.proofs.lemmas.Bool.{true≢false, cases_order, false_from_ne_true}
use Rattle.std.proofs.lemmas.Option.{slice_get_within, slice_get-map, slice_get-get_or, get_or_from_slice_get}
use Rattle.go_term_core.specs.decl_core.declared.keys.DeclKey.{DeclKey}
use Rattle.go_term_core.specs.decl_core.declared.keys.DeclRef.{DeclRef}
use Rattle.go_term_core.specs.Terms.{Term, NoType, Predeclared, ErrorType, Defined, PointerTo, StructOf, InterfaceOf}
use Rattle.go_type_core.specs.table_core.declared.entry.TypeEntry.{TypeEntry}
use Rattle.go_type_core.specs.table_core.Entries.{Entry, same_key}
use Rattle.go_type_core.specs.table_core.Shown.{entry_shown}
use Rattle.go_type_core.specs.table_core.Tables.{KeysRise}
use Rattle.go_type_core.specs.table_core.Keys.{not_before_itself, ref_before_on, rise_first, rise_rest, same_key_from, same_key_true}
use Rattle.go_typexpr_core.specs.entry.Entries.{is_type_of}
use Rattle.go_typexpr_core.specs.entry.mirrors.Gaining.{IsMeantAt}
use Rattle.go_term_core.specs.decl_core.Order.{is_ref_before}

-- a type of a key
pub type_is : (k : DeclKey) (t : Term) → is_type_of k t ≡ true → t ≡ Defined k
type_is k NoType h = absurd (true≢false (sym h))
type_is k (Predeclared b) h = absurd (true≢false (sym h))
type_is k ErrorType h = absurd (true≢false (sym h))
type_is k (Defined j) h = ap Defined (same_key_true j k h)
type_is k (PointerTo t) h = absurd (true≢false (sym h))
type_is k (StructOf path fs) h = absurd (true≢false (sym h))
type_is k (InterfaceOf path ms) h = absurd (true≢false (sym h))

-- entries that rise

pub rise_far : (es : List Entry) → KeysRise es → (i j : ℕ) (e f : Entry) → slice_get es i ≡ Some e → slice_get es j ≡ Some f → i < j → is_ref_before e.key.decl f.key.decl ≡ true
rise_far [] rise i j e f h k lt = absurd (let no : None ≡ Some e = h in cc)
rise_far (x ∷ es) rise zero zero e f h k lt = absurd (omega (arith, lt))
rise_far (x ∷ es) rise zero (suc j) e f h k lt =
    let same : x ≡ e = (let s : Some x ≡ Some e = h in cc) in
    subst (λ (y : Entry). is_ref_before y.key.decl f.key.decl ≡ true) same (rise_first x es rise j f k)
rise_far (x ∷ es) rise (suc i) zero e f h k lt = absurd (omega (arith, lt))
rise_far (x ∷ es) rise (suc i) (suc j) e f h k lt = rise_far es (rise_rest x es rise) i j e f h k (omega (arith, lt))

-- entries that have one key stand at one place
pub rise_one : (es : List Entry) → KeysRise es → (i j : ℕ) (e f : Entry) → slice_get es i ≡ Some e → slice_get es j ≡ Some f → e.key ≡ f.key → i ≡ j
rise_one es rise i j e f h k same = elim (cases_order i j) [
  | inl eq ↦ eq
  | inr apart ↦ elim apart [
    | inl less ↦ absurd (not_before_itself e.key.decl f.key.decl (ap (λ (x : DeclKey). x.decl) same) (rise_far es rise i j e f h k less))
    | inr more ↦ absurd (not_before_itself f.key.decl e.key.decl (ap (λ (x : DeclKey). x.decl) (sym same)) (rise_far es rise j i f e k h more))
  ]
]

-- a search among entries as the program holds them

shown_at : (ws : List TypeEntry) (i : ℕ) (d : TypeEntry) → i < length ws → slice_get (map entry_shown ws) i ≡ Some (entry_shown (get_or ws i d))
shown_at ws i d lt = slice_get-map entry_shown ws i ∙ ap (option_map entry_shown) (slice_get-get_or ws i d lt)

pub rise_split : (ws : List TypeEntry) (d : DeclRef) → KeysRise (map entry_shown ws) → IsPartitionedBy (λ e. is_ref_before e.key.decl d) ws
rise_split ws d rise i j x le lt h = elim (cases_order i j) [
  | inl same ↦ subst (λ (k : ℕ). is_ref_before (get_or ws k x).key.decl d ≡ true) (sym same) h
  | inr apart ↦ elim apart [
    | inl less ↦ (
        let within : i < length ws = omega (arith, le, lt) in
        ref_before_on (get_or ws i x).key.decl (get_or ws j x).key.decl d
        (rise_far (map entry_shown ws) rise i j (entry_shown (get_or ws i x)) (entry_shown (get_or ws j x)) (shown_at ws i x within) (shown_at ws j x lt) less) h
        )
    | inr more ↦ absurd (omega (arith, le, more))
  ]
]

abbrev IsSplit : List TypeEntry → DeclKey → ℕ → Type 0
IsSplit ws k n = IsPartitionPoint (λ (e : TypeEntry). is_ref_before e.key.decl k.decl ≡ true) (λ (e : TypeEntry). is_ref_before e.key.decl k.decl ≡ false) ws n

pub entry_here : (ws : List TypeEntry) (k : DeclKey) (n : ℕ) (w : TypeEntry) → slice_get ws n ≡ Some w → w.key ≡ k → IsMeantAt (map entry_shown ws) (Defined k) (Some n)
entry_here ws k n w at same = (entry_shown w, slice_get-map entry_shown ws n ∙ ap (option_map entry_shown) at, same_key_from k w.key (sym same))

-- an entry that the program holds at a place
pub held : (ws : List TypeEntry) (i : ℕ) (e : Entry) → slice_get (map entry_shown ws) i ≡ Some e → (w : TypeEntry) × (slice_get ws i ≡ Some w) × (entry_shown w ≡ e)
held [] i e h = absurd (let no : None ≡ Some e = h in cc)
held (w ∷ ws) zero e h = (w, refl, (let s : Some (entry_shown w) ≡ Some e = h in cc))
held (w ∷ ws) (suc i) e h = held ws i e h

pub entry_nowhere : (ws : List TypeEntry) (k : DeclKey) (n : ℕ) → KeysRise (map entry_shown ws) → IsSplit ws k n → ((w : TypeEntry) → slice_get ws n ≡ Some w → w.key ≡ k → ⊥) → IsMeantAt (map entry_shown ws) (Defined k) None
entry_nowhere ws k n rise split none i e at = false_from_ne_true (same_key k e.key) (λ yes.
    (let key : k ≡ e.key = same_key_true k e.key yes in
    let w = held ws i e at in
    let own : w.0.key ≡ k = ap (λ (x : Entry). x.key) w.2 ∙ sym key in
    let within : i < length ws = slice_get_within ws i w.0 w.1 in
    let read : get_or ws i w.0 ≡ w.0 = get_or_from_slice_get ws i w.0 w.0 w.1 in
    let decl : w.0.key.decl ≡ k.decl = ap (λ (x : DeclKey). x.decl) own in
    elim (cases_order i n) [
      | inl here ↦ none w.0 (ap (slice_get ws) (sym here) ∙ w.1) own
      | inr apart ↦ elim apart [
        | inl less ↦ not_before_itself w.0.key.decl k.decl decl (ap (λ (y : TypeEntry). is_ref_before y.key.decl k.decl) (sym read) ∙ split.0 i w.0 (omega arith) less)
        | inr more ↦ (
            let lt : n < length ws = omega (arith, within, more) in
            let below : is_ref_before (get_or ws n w.0).key.decl (get_or ws i w.0).key.decl ≡ true =
            rise_far (map entry_shown ws) rise n i (entry_shown (get_or ws n w.0)) (entry_shown (get_or ws i w.0)) (shown_at ws n w.0 lt) (shown_at ws i w.0 within) more in
            let yes : is_ref_before (get_or ws n w.0).key.decl k.decl ≡ true = ap (is_ref_before (get_or ws n w.0).key.decl) (sym (ap (λ (y : TypeEntry). y.key.decl) read ∙ decl)) ∙ below in
            true≢false (sym yes ∙ split.1 n w.0 (omega arith) lt)
            )
      ]
    ]))
