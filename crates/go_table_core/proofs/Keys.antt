-- Equal keys, keys that stand before others, and entries whose keys rise.
use Rattle.std.proofs.Common.{◌≡◌, ℕ, zero, suc, ◌<◌, ◌⊎◌, inl, inr, true, ◌&&◌, List, [], ◌∷◌, Some, refl, ap, ◌∙◌, subst, arith}
use Rattle.std.specs.Prelude.{slice_get, nat_eq, nat_lt}
use Rattle.std.specs.Str.{bytes_eq}
use Rattle.std.proofs.lemmas.Bool.{and_parts, and_from, or_cases, or_left, or_right, eqb-true, eq-eqb, ltb-true, lt-ltb}
use Rattle.std.proofs.lemmas.Slice.Eq.{bytes_eq-Decides}
use denote.Enum.Bare.{sameb, same_true, true_same}
use Rattle.go_term_core.specs.decl_core.contracts.places.DeclKind as decl_kind
use Rattle.go_term_core.specs.decl_core.declared.keys.DeclKey.{DeclKey}
use Rattle.go_term_core.specs.decl_core.declared.keys.DeclRef.{DeclRef}
use Rattle.go_term_core.specs.decl_core.Order.{is_ref_before}
use Rattle.go_table_core.specs.Entries.{Entry, same_decl, same_key}
use Rattle.go_table_core.specs.Tables.{KeysRise}

-- equal keys

pub same_key_true : (a b : DeclKey) → same_key a b ≡ true → a ≡ b
same_key_true a b h =
    let parts = and_parts (bytes_eq a.path b.path) (same_decl a.decl b.decl) h in
    let path : a.path ≡ b.path = (bytes_eq-Decides a.path b.path).0 parts.0 in
    let inner = and_parts (nat_eq a.decl.file b.decl.file) (nat_eq a.decl.number b.decl.number && sameb decl_kind.the_type a.decl.kind b.decl.kind) parts.1 in
    let last = and_parts (nat_eq a.decl.number b.decl.number) (sameb decl_kind.the_type a.decl.kind b.decl.kind) inner.1 in
    let file : a.decl.file ≡ b.decl.file = eqb-true a.decl.file b.decl.file inner.0 in
    let number : a.decl.number ≡ b.decl.number = eqb-true a.decl.number b.decl.number last.0 in
    let kind : a.decl.kind ≡ b.decl.kind = same_true decl_kind.the_type tt a.decl.kind b.decl.kind last.1 in
    λ i. record { path = path i; decl = record { file = file i; number = number i; kind = kind i } }

pub same_key_itself : (k : DeclKey) → same_key k k ≡ true
same_key_itself k =
    and_from (bytes_eq k.path k.path) (same_decl k.decl k.decl) ((bytes_eq-Decides k.path k.path).1 refl)
    (and_from (nat_eq k.decl.file k.decl.file) (nat_eq k.decl.number k.decl.number && sameb decl_kind.the_type k.decl.kind k.decl.kind) (eq-eqb k.decl.file k.decl.file refl)
    (and_from (nat_eq k.decl.number k.decl.number) (sameb decl_kind.the_type k.decl.kind k.decl.kind) (eq-eqb k.decl.number k.decl.number refl) (true_same decl_kind.the_type k.decl.kind k.decl.kind refl)))

pub same_key_from : (a b : DeclKey) → a ≡ b → same_key a b ≡ true
same_key_from a b e = subst (λ (x : DeclKey). same_key a x ≡ true) e (same_key_itself a)

-- before and behind

abbrev pub Before : DeclRef → DeclRef → Type 0
Before a b = (a.file < b.file) ⊎ ((a.file ≡ b.file) × (a.number < b.number))

pub before_on : (a b c : DeclRef) → Before a b → Before b c → Before a c
before_on a b c h k = elim h [
  | inl f ↦ elim k [ inl g ↦ inl (omega arith) | inr s ↦ (let e = s.0 in inl (omega (arith, e))) ]
  | inr s ↦ elim k [ inl g ↦ (let e = s.0 in inl (omega (arith, e))) | inr r ↦ (let lt = s.1 in let mt = r.1 in inr (s.0 ∙ r.0, omega (arith, lt, mt))) ]
]

before_from : (a b : DeclRef) → is_ref_before a b ≡ true → Before a b
before_from a b h = elim (or_cases (nat_lt a.file b.file) (nat_eq a.file b.file && nat_lt a.number b.number) h) [
  | inl f ↦ inl (ltb-true a.file b.file f)
  | inr s ↦ (let p = and_parts (nat_eq a.file b.file) (nat_lt a.number b.number) s in inr (eqb-true a.file b.file p.0, ltb-true a.number b.number p.1))
]

before_to : (a b : DeclRef) → Before a b → is_ref_before a b ≡ true
before_to a b h = elim h [
  | inl f ↦ or_left (nat_lt a.file b.file) (nat_eq a.file b.file && nat_lt a.number b.number) (lt-ltb a.file b.file f)
  | inr s ↦ or_right (nat_lt a.file b.file) (nat_eq a.file b.file && nat_lt a.number b.number) (and_from (nat_eq a.file b.file) (nat_lt a.number b.number) (eq-eqb a.file b.file s.0) (lt-ltb a.number b.number s.1))
]

pub ref_before_on : (a b c : DeclRef) → is_ref_before a b ≡ true → is_ref_before b c ≡ true → is_ref_before a c ≡ true
ref_before_on a b c h k = before_to a c (before_on a b c (before_from a b h) (before_from b c k))

pub not_before_itself : (a b : DeclRef) → a ≡ b → is_ref_before a b ≡ true → ⊥
not_before_itself a b e h =
    let file : a.file ≡ b.file = ap (λ d. d.file) e in
    let number : a.number ≡ b.number = ap (λ d. d.number) e in
    elim (before_from a b h) [ inl f ↦ absurd (omega (arith, file, f)) | inr s ↦ (let lt = s.1 in absurd (omega (arith, number, lt))) ]

-- entries that rise

pub rise_rest : (w : Entry) (es : List Entry) → KeysRise (w ∷ es) → KeysRise es
rise_rest w [] rise = tt
rise_rest w (v ∷ es) rise = rise.1

-- the first of entries that rise stands before each of the others
pub rise_first : (w : Entry) (es : List Entry) → KeysRise (w ∷ es) → (i : ℕ) (e : Entry) → slice_get es i ≡ Some e → is_ref_before w.key.decl e.key.decl ≡ true
rise_first w [] rise i e h = absurd (cc)
rise_first w (v ∷ es) rise zero e h = (let ve : v ≡ e = cc in subst (λ (x : Entry). is_ref_before w.key.decl x.key.decl ≡ true) ve rise.0)
rise_first w (v ∷ es) rise (suc i) e h = ref_before_on w.key.decl v.key.decl e.key.decl rise.0 (rise_first v es rise.1 i e h)
