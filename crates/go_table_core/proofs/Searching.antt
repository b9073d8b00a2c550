-- What a search among the types of a package finds.
use Rattle.std.proofs.Common.{◌≡◌, ℕ, ◌+◌, ◌<◌, ◌≤◌, zero, suc, Bool, true, false, ◌&&◌, ◌||◌, inl, inr, List, [], ◌∷◌, length, get_or, Some, None, Err, refl, sym, ap, ◌∙◌, subst, arith, cond, if◌then◌else◌}
use Rattle.std.specs.Prelude.{slice_get, nat_lt, nat_eq}
use Rattle.std.specs.Str.{bytes_eq}
use Rattle.std.specs.Cmp.{IsTotalOrder}
use Rattle.std.specs.List.Sorted.{IsBinarySearchResult}
use Rattle.std.specs.Ordering.{nat_cmp, is_lt, ordering_then, ordering_reverse}
use Rattle.std.specs.declared.cmp.Ordering.{Ordering}
use Rattle.std.specs.declared.cmp.Ordering.TheVariants.{Less, Equal, Greater}
use Rattle.std.proofs.lemmas.Bool.{true≢false, cases_lt}
use Rattle.std.proofs.lemmas.Cmp.{nat_cmp_total, on_total, then_total, tied_itself, ranked}
use Rattle.std.proofs.lemmas.List.Sorted.{searchable_from_sorted}
use Rattle.std.proofs.lemmas.Option.{slice_get_within, get_or_from_slice_get, slice_get_read}
use borrow.Author.Tests.{eqb-true, eq-eqb}
use denote.Enum.Bare.{sameb, same_true, true_same}
use Rattle.go_term_core.specs.decl_core.contracts.places.DeclKind as decl_kind
use Rattle.go_term_core.specs.decl_core.declared.keys.DeclKey.{DeclKey}
use Rattle.go_term_core.specs.decl_core.declared.keys.DeclRef.{DeclRef}
use Rattle.go_term_core.proofs.SettlingNames.{bytes_same as same_bytes}
use Rattle.go_table_core.specs.Entries.{Entry, same_decl, same_key, find_entry}
use Rattle.go_table_core.specs.Tables.{AreOf, KeysRise, ArePackageTypes, IsPlaceOf}
use Rattle.go_term_core.specs.decl_core.Order.{place_cmp}
use Rattle.go_table_core.proofs.Finding.{bytes_same}

decl_total : IsTotalOrder place_cmp
decl_total = then_total (on_total (λ d. d.file) nat_cmp_total) (on_total (λ d. d.number) nat_cmp_total)

-- the test of two keys, as an answer of the comparison
less_is : (a b : ℕ) → nat_lt a b ≡ true → nat_cmp a b ≡ Less
less_is a b h = ap (λ t. cond t Less (cond (nat_eq a b) Equal Greater)) h

equal_is : (a b : ℕ) → nat_lt a b ≡ false → nat_eq a b ≡ true → nat_cmp a b ≡ Equal
equal_is a b h e = ap (λ t. cond t Less (cond (nat_eq a b) Equal Greater)) h ∙ ap (λ t. cond t Equal Greater) e

before_is_less : (a b : DeclRef) → nat_lt a.file b.file || (nat_eq a.file b.file && nat_lt a.number b.number) ≡ true → place_cmp a b ≡ Less
before_is_less a b h = by (nat_lt a.file b.file) (nat_eq a.file b.file) refl refl h
  where
    by : (s t : Bool) → nat_lt a.file b.file ≡ s → nat_eq a.file b.file ≡ t → s || (t && nat_lt a.number b.number) ≡ true → place_cmp a b ≡ Less
    by true t e d k = ap (λ o. ordering_then o (nat_cmp a.number b.number)) (less_is a.file b.file e)
    by false true e d k = ap (λ o. ordering_then o (nat_cmp a.number b.number)) (equal_is a.file b.file e d) ∙ less_is a.number b.number k
    by false false e d k = absurd (true≢false (sym k))

not_less_back : (a b : DeclRef) → place_cmp a b ≡ Less → is_lt (place_cmp b a) ≡ false
not_less_back a b h = ap is_lt (decl_total.antisymm b a ∙ ap ordering_reverse h)

rise_sorted : (es : List Entry) → KeysRise es → (k : ℕ) (d : Entry) → 0 ≤ k → k + 1 < length es → is_lt (place_cmp (get_or es (k + 1) d).key.decl (get_or es k d).key.decl) ≡ false
rise_sorted [] rise k d low lt = absurd (omega arith)
rise_sorted (e ∷ []) rise k d low lt = absurd (omega arith)
rise_sorted (e ∷ f ∷ es) rise zero d low lt = not_less_back e.key.decl f.key.decl (before_is_less e.key.decl f.key.decl rise.0)
rise_sorted (e ∷ f ∷ es) rise (suc k) d low lt =
    let lt' : k + 1 < length (f ∷ es) = omega arith in
    let next : suc k + 1 ≡ suc (k + 1) = omega arith in
    subst (λ (m : ℕ). is_lt (place_cmp (get_or (e ∷ f ∷ es) m d).key.decl (get_or (f ∷ es) k d).key.decl) ≡ false) (sym next) (rise_sorted (f ∷ es) rise.1 k d (omega arith) lt')

-- equal by the comparison: of one file and one number
equal_parts : (a b : DeclRef) → place_cmp a b ≡ Equal → (a.file ≡ b.file) × (a.number ≡ b.number)
equal_parts a b h = by (nat_cmp a.file b.file) (nat_cmp a.number b.number) refl refl h
  where
    by : (o r : Ordering) → nat_cmp a.file b.file ≡ o → nat_cmp a.number b.number ≡ r → ordering_then o r ≡ Equal → (a.file ≡ b.file) × (a.number ≡ b.number)
    by Less r e d k = absurd (let no : Less ≡ Equal = k in cc)
    by Equal Less e d k = absurd (let no : Less ≡ Equal = k in cc)
    by Equal Equal e d k = (ranked a.file b.file Equal (sym e), ranked a.number b.number Equal (sym d))
    by Equal Greater e d k = absurd (let no : Greater ≡ Equal = k in cc)
    by Greater r e d k = absurd (let no : Greater ≡ Equal = k in cc)

same_compares : (a b : DeclRef) → a ≡ b → place_cmp a b ≡ Equal
same_compares a b same = subst (λ (d : DeclRef). place_cmp a d ≡ Equal) same (tied_itself decl_total a)

-- the order along a list whose keys rise

rise_tail : (e : Entry) (es : List Entry) → KeysRise (e ∷ es) → KeysRise es
rise_tail e [] rise = tt
rise_tail e (f ∷ es) rise = rise.1

head_before : (e : Entry) (es : List Entry) → KeysRise (e ∷ es) → (j : ℕ) (f : Entry) → slice_get es j ≡ Some f → place_cmp e.key.decl f.key.decl ≡ Less
head_before e [] rise j f h = absurd (let no : None ≡ Some f = h in cc)
head_before e (g ∷ es) rise zero f h =
    let same : g ≡ f = cc in
    subst (λ (x : Entry). place_cmp e.key.decl x.key.decl ≡ Less) same (before_is_less e.key.decl g.key.decl rise.0)
head_before e (g ∷ es) rise (suc j) f h =
    decl_total.trans e.key.decl g.key.decl f.key.decl (before_is_less e.key.decl g.key.decl rise.0) (head_before g es rise.1 j f h)

far_before : (es : List Entry) → KeysRise es → (i j : ℕ) (e f : Entry) → slice_get es i ≡ Some e → slice_get es j ≡ Some f → i < j → place_cmp e.key.decl f.key.decl ≡ Less
far_before [] rise i j e f h k lt = absurd (let no : None ≡ Some e = h in cc)
far_before (x ∷ es) rise zero zero e f h k lt = absurd (omega arith)
far_before (x ∷ es) rise zero (suc j) e f h k lt =
    let same : x ≡ e = cc in
    subst (λ (y : Entry). place_cmp y.key.decl f.key.decl ≡ Less) same (head_before x es rise j f k)
far_before (x ∷ es) rise (suc i) zero e f h k lt = absurd (omega arith)
far_before (x ∷ es) rise (suc i) (suc j) e f h k lt = (let lt' : i < j = omega arith in far_before es (rise_tail x es rise) i j e f h k lt')

-- keys

and_left : (a b : Bool) → a && b ≡ true → a ≡ true
and_left true b h = refl
and_left false b h = h

and_right : (a b : Bool) → a && b ≡ true → b ≡ true
and_right true b h = h
and_right false b h = absurd (true≢false (sym h))

pub same_decl-is : (a b : DeclRef) → same_decl a b ≡ true → a ≡ b
same_decl-is a b h =
    let file : a.file ≡ b.file = eqb-true a.file b.file (and_left (nat_eq a.file b.file) (nat_eq a.number b.number && sameb decl_kind.the_type a.kind b.kind) h) in
    let rest = and_right (nat_eq a.file b.file) (nat_eq a.number b.number && sameb decl_kind.the_type a.kind b.kind) h in
    let number : a.number ≡ b.number = eqb-true a.number b.number (and_left (nat_eq a.number b.number) (sameb decl_kind.the_type a.kind b.kind) rest) in
    let kind : a.kind ≡ b.kind = same_true decl_kind.the_type tt a.kind b.kind (and_right (nat_eq a.number b.number) (sameb decl_kind.the_type a.kind b.kind) rest) in
    λ i. record { file = file i; number = number i; kind = kind i }

same_key-is : (a k : DeclKey) → same_key a k ≡ true → a ≡ k
same_key-is a k h =
    let path : a.path ≡ k.path = same_bytes a.path k.path (and_left (bytes_eq a.path k.path) (same_decl a.decl k.decl) h) in
    let decl : a.decl ≡ k.decl = same_decl-is a.decl k.decl (and_right (bytes_eq a.path k.path) (same_decl a.decl k.decl) h) in
    λ i. record { path = path i; decl = decl i }

same_decl-refl : (a : DeclRef) → same_decl a a ≡ true
same_decl-refl a =
    let file : nat_eq a.file a.file ≡ true = eq-eqb a.file a.file refl in
    let number : nat_eq a.number a.number ≡ true = eq-eqb a.number a.number refl in
    let kind : sameb decl_kind.the_type a.kind a.kind ≡ true = true_same decl_kind.the_type a.kind a.kind refl in
    ap (λ b. b && (nat_eq a.number a.number && sameb decl_kind.the_type a.kind a.kind)) file ∙ (ap (λ b. b && sameb decl_kind.the_type a.kind a.kind) number ∙ kind)

pub same_decl-apart : (a b : DeclRef) → same_decl a b ≡ false → a ≡ b → ⊥
same_decl-apart a b apart same = true≢false (sym (subst (λ (d : DeclRef). same_decl a d ≡ true) same (same_decl-refl a)) ∙ apart)

pub same_key-true : (a k : DeclKey) → a ≡ k → same_key a k ≡ true
same_key-true a k same = subst (λ (x : DeclKey). same_key a x ≡ true) same (ap (λ b. b && same_decl a.decl a.decl) (bytes_same a.path a.path refl) ∙ same_decl-refl a.decl)

-- the first of a key

find_at : (es : List Entry) (k : DeclKey) (i : ℕ) (e : Entry) → KeysRise es → slice_get es i ≡ Some e → e.key ≡ k → find_entry es k ≡ Some e
find_at [] k i e rise h key = absurd (let no : None ≡ Some e = h in cc)
find_at (x ∷ es) k zero e rise h key =
    let same : x ≡ e = cc in
    ap (λ b. if b then Some x else find_entry es k) (same_key-true x.key k (ap (λ y. y.key) same ∙ key)) ∙ h
find_at (x ∷ es) k (suc i) e rise h key = by (same_key x.key k) refl (find_at es k i e (rise_tail x es rise) h key)
  where
    by : (b : Bool) → same_key x.key k ≡ b → find_entry es k ≡ Some e → (if b then Some x else find_entry es k) ≡ Some e
    by true same rest =
        let decls : x.key.decl ≡ e.key.decl = ap (λ y. y.decl) (same_key-is x.key k same ∙ sym key) in
        let less : place_cmp x.key.decl e.key.decl ≡ Less = head_before x es rise i e h in
        absurd (let no : Equal ≡ Less = sym (same_compares x.key.decl e.key.decl decls) ∙ less in cc)
    by false same rest = rest

find_none : (es : List Entry) (k : DeclKey) → ((i : ℕ) (e : Entry) → slice_get es i ≡ Some e → e.key ≡ k → ⊥) → find_entry es k ≡ None
find_none [] k none = refl
find_none (x ∷ es) k none = by (same_key x.key k) refl (find_none es k (λ i e h key. none (suc i) e h key))
  where
    by : (b : Bool) → same_key x.key k ≡ b → find_entry es k ≡ None → (if b then Some x else find_entry es k) ≡ None
    by true same rest = absurd (none 0 x refl (same_key-is x.key k same))
    by false same rest = rest

-- what a search answers

there : (es : List Entry) (i : ℕ) (e : Entry) → slice_get es i ≡ Some e → (i < length es) × ((d : Entry) → get_or es i d ≡ e)
there es i e h = (slice_get_within es i e h, λ d. get_or_from_slice_get es i e d h)

pub answer_none : (es : List Entry) (k : DeclKey) (n : ℕ) → ArePackageTypes k.path es → IsBinarySearchResult (λ e. place_cmp e.key.decl k.decl) es (Err n) → find_entry es k ≡ None
answer_none es k n well parted = find_none es k (λ i e h key.
    let split = parted (searchable_from_sorted decl_total (λ e. e.key.decl) es k.decl (rise_sorted es well.rising)) in
    let at = there es i e h in
    let equal : place_cmp (get_or es i e).key.decl k.decl ≡ Equal = same_compares (get_or es i e).key.decl k.decl (ap (λ y. y.key.decl) (at.1 e) ∙ ap (λ y. y.decl) key) in
    elim (cases_lt i n) [
      | inl before ↦ (let no : Less ≡ Equal = sym (split.0 i e (omega arith) before) ∙ equal in cc)
      | inr behind ↦ (let no : Greater ≡ Equal = sym (split.1 i e behind at.0) ∙ equal in cc)
    ])

-- the declaration at the place that the search answers is the key's
own_path : (es : List Entry) (n : ℕ) (e : Entry) (path : List ℕ) → AreOf path es → slice_get es n ≡ Some e → e.key.path ≡ path
own_path [] n e path own h = absurd (let no : None ≡ Some e = h in cc)
own_path (x ∷ es) zero e path own h = (let same : x ≡ e = cc in ap (λ y. y.key.path) (sym same) ∙ own.0)
own_path (x ∷ es) (suc n) e path own h = own_path es n e path own.1 h

pub answer_some : (es : List Entry) (k : DeclKey) (n : ℕ) (e : Entry) → ArePackageTypes k.path es → n < length es → e ≡ get_or es n e → e.key.decl ≡ k.decl → (Some e ≡ find_entry es k) × IsPlaceOf es k n
answer_some es k n e well lt is decl =
    let at : slice_get es n ≡ Some e = slice_get_read es (length es) n e refl lt is in
    let path : e.key.path ≡ k.path = own_path es n e k.path well.own at in
    let key : e.key ≡ k = λ i. record { path = path i; decl = decl i } in
    let found = find_at es k n e well.rising at key in
    (sym found, (e, at, found, key))

-- it is another of the same place
pub answer_other : (es : List Entry) (k : DeclKey) (n : ℕ) (e : Entry) → ArePackageTypes k.path es → n < length es → e ≡ get_or es n e → place_cmp (get_or es n e).key.decl k.decl ≡ Equal → (e.key.decl ≡ k.decl → ⊥) → find_entry es k ≡ None
answer_other es k n e well lt is equal other =
    let at : slice_get es n ≡ Some e = slice_get_read es (length es) n e refl lt is in
    let tied : place_cmp e.key.decl k.decl ≡ Equal = ap (λ y. place_cmp y.key.decl k.decl) is ∙ equal in
    find_none es k (λ i f h key.
    let decl : f.key.decl ≡ k.decl = ap (λ y. y.decl) key in
    let level : place_cmp e.key.decl f.key.decl ≡ Equal = ap (place_cmp e.key.decl) decl ∙ tied in
    elim (cases_lt i n) [
      | inl before ↦ (
          let less : place_cmp f.key.decl e.key.decl ≡ Less = far_before es well.rising i n f e h at before in
          let back : place_cmp f.key.decl e.key.decl ≡ Equal = decl_total.antisymm f.key.decl e.key.decl ∙ ap ordering_reverse level in
          let no : Less ≡ Equal = sym less ∙ back in
          cc
          )
      | inr behind ↦ elim (cases_lt n i) [
        | inl after ↦ (
            let less : place_cmp e.key.decl f.key.decl ≡ Less = far_before es well.rising n i e f at h after in
            let no : Less ≡ Equal = sym less ∙ level in
            cc
            )
        | inr upto ↦ (
            let ni : n ≡ i = omega (arith, behind, upto) in
            let same : Some e ≡ Some f = sym at ∙ (ap (slice_get es) ni ∙ h) in
            let ef : e ≡ f = cc in
            other (ap (λ y. y.key.decl) ef ∙ decl)
            )
      ]
    ])
