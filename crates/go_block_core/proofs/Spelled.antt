-- Names that are found by their spellings.
use Rattle.std.proofs.Common.{◌≡◌, ℕ, zero, suc, ◌+◌, ◌<◌, ◌≤◌, inl, inr, Bool, true, false, List, [], ◌∷◌, ◌++◌, length, get_or, Option, Some, None, cond, refl, sym, ap, ◌∙◌, subst, arith}
use Rattle.std.specs.Prelude.{slice_get, nat_eq, Contains, if◌then◌else◌}
use Rattle.std.specs.Str.{bytes_eq}
use Rattle.std.specs.Cmp.{IsTotalOrder, IsStrictWeakOrder}
use Rattle.std.specs.List.Sorted.{IsPermutation, IsPartitionPoint, IsPartitionedBy, IsSortedBy}
use Rattle.std.specs.Ordering.{is_lt, nat_cmp, ordering_then, ordering_reverse}
use Rattle.std.specs.declared.cmp.Ordering.{Ordering}
use Rattle.std.specs.declared.cmp.Ordering.TheVariants.{Less, Equal, Greater}
use Rattle.std.proofs.lemmas.Bool.{true≢false, cases_order, cases_lt, lt-ltb}
use Rattle.std.proofs.lemmas.Cmp.{nat_cmp_total, nat_list_cmp_total, on_total, then_total, tied_itself}
use Rattle.std.proofs.lemmas.List.Elements.{Contains-append_left, Contains-push}
use Rattle.std.proofs.lemmas.List.Sorted.{ranks_by, sorted_far, Contains-permutation}
use Rattle.std.proofs.lemmas.Map.Lookups.{exact_bytes}
use Rattle.std.proofs.lemmas.Option.{slice_get_within, slice_get-get_or, get_or_from_slice_get}
use Rattle.std.proofs.lemmas.Slice.Eq.{bytes_eq-Decides}
use Rattle.go_decl_core.specs.declared.keys.DeclRef.{DeclRef}
use Rattle.go_block_core.specs.Tables.{in_block}
use Rattle.go_block_core.specs.mirrors.Orders.{Names, HasPlaces, IsNameOrder, by_spelling, decl_if, is_below, spelling_at, spelling_or, text_cmp}

-- all places

pub places_none : (places : List ℕ) → HasPlaces 0 places
places_none places = λ i lt. absurd (omega (arith, lt))

pub places_more : (old new : List ℕ) (n : ℕ) → HasPlaces n old → new ≡ old ++ n ∷ [] → HasPlaces (n + 1) new
places_more old new n h e = λ i lt. subst (λ (xs : List ℕ). Contains xs i) (sym e) (elim (cases_lt i n) [
  | inl less ↦ Contains-append_left old (n ∷ []) i (h i less)
  | inr upto ↦ (let same : n ≡ i = omega (arith, lt, upto) in subst (λ (m : ℕ). Contains (old ++ n ∷ []) m) same (Contains-push old n))
])

-- the order

by_total : (ns : Names) → IsTotalOrder (by_spelling ns)
by_total ns = then_total (on_total (spelling_at ns) nat_list_cmp_total) nat_cmp_total

pub by_weak : (ns : Names) → IsStrictWeakOrder (λ (x y : ℕ). is_lt (by_spelling ns x y))
by_weak ns = ranks_by (by_total ns) (λ (x : ℕ). x)

pub order_made : (ns : Names) (places order : List ℕ) → HasPlaces (length ns) places → IsPermutation places order → IsSortedBy (λ (x y : ℕ). is_lt (by_spelling ns x y)) order → IsNameOrder ns order
order_made ns places order all moved sorted = record {
  every = λ i lt. Contains-permutation places order i moved (all i lt);
  sorted = sorted;
}

-- places whose names are spelled before another stand in front

reversed : (a b : List ℕ) → text_cmp a b ≡ ordering_reverse (text_cmp b a)
reversed a b = nat_list_cmp_total.antisymm a b

not_lt-then : (o p : Ordering) → is_lt (ordering_then o p) ≡ false → is_lt o ≡ false
not_lt-then Less p h = absurd (true≢false h)
not_lt-then Equal p h = refl
not_lt-then Greater p h = refl

lt_is : (o : Ordering) → is_lt o ≡ true → o ≡ Less
lt_is Less h = refl
lt_is Equal h = absurd (true≢false (sym h))
lt_is Greater h = absurd (true≢false (sym h))

-- below what is not greater
below_upto : (a b c : List ℕ) → is_lt (text_cmp b a) ≡ false → is_lt (text_cmp b c) ≡ true → is_lt (text_cmp a c) ≡ true
below_upto a b c upto less = by (text_cmp a b) refl
  where
    by : (o : Ordering) → text_cmp a b ≡ o → is_lt (text_cmp a c) ≡ true
    by Less e = ap is_lt (nat_list_cmp_total.trans a b c e (lt_is (text_cmp b c) less))
    by Equal e = ap (λ (t : List ℕ). is_lt (text_cmp t c)) (exact_bytes a b e) ∙ less
    by Greater e = absurd (true≢false (sym (ap is_lt (reversed b a ∙ ap ordering_reverse e)) ∙ upto))

pub order_split : (ns : Names) (order name : List ℕ) → IsNameOrder ns order → IsPartitionedBy (is_below ns name) order
order_split ns order name h i j d le lt below =
    let far = sorted_far (λ (x y : ℕ). is_lt (by_spelling ns x y)) (by_weak ns) order h.sorted i j d le lt in
    let a = spelling_at ns (get_or order i d) in
    let b = spelling_at ns (get_or order j d) in
    below_upto a b name (not_lt-then (text_cmp b a) (nat_cmp (get_or order j d) (get_or order i d)) far) below

-- the first of a name

pub none_named : (ns : Names) (name : List ℕ) → in_block ns name ≡ None → (i : ℕ) (e : List ℕ × DeclRef) → slice_get ns i ≡ Some e → bytes_eq name e.0 ≡ false
none_named [] name none i e at = (let no : None ≡ Some e = at in cc)
none_named (n ∷ ns) name none i e at = by (bytes_eq name n.0) refl none i at (λ gone j there. none_named ns name gone j e there)
  where
    by : (b : Bool) → bytes_eq name n.0 ≡ b → cond b (Some n.1) (in_block ns name) ≡ None → (i : ℕ) → slice_get (n ∷ ns) i ≡ Some e
        → (in_block ns name ≡ None → (j : ℕ) → slice_get ns j ≡ Some e → bytes_eq name e.0 ≡ false) → bytes_eq name e.0 ≡ false
    by true t gone i at rest = absurd (let s : Some n.1 ≡ None = gone in cc)
    by false t gone zero at rest = (let same : n ≡ e = (let s : Some n ≡ Some e = at in cc) in ap (λ (x : List ℕ × DeclRef). bytes_eq name x.0) (sym same) ∙ t)
    by false t gone (suc i) at rest = rest gone i at

record IsFirst (ns : Names) (name : List ℕ) (d : DeclRef) : Type 0 where
  place : ℕ
  named : List ℕ × DeclRef
  there : slice_get ns place ≡ Some named
  name_is : bytes_eq name named.0 ≡ true
  decl_is : named.1 ≡ d
  before : (i : ℕ) (e : List ℕ × DeclRef) → i < place → slice_get ns i ≡ Some e → bytes_eq name e.0 ≡ false

first_named : (ns : Names) (name : List ℕ) (d : DeclRef) → in_block ns name ≡ Some d → IsFirst ns name d
first_named [] name d h = (let no : None ≡ Some d = h in cc)
first_named (n ∷ ns) name d h = by (bytes_eq name n.0) refl h (first_named ns name d)
  where
    by : (b : Bool) → bytes_eq name n.0 ≡ b → cond b (Some n.1) (in_block ns name) ≡ Some d → (in_block ns name ≡ Some d → IsFirst ns name d) → IsFirst (n ∷ ns) name d
    by true t is rest = record {
      place = 0;
      named = n;
      there = refl;
      name_is = t;
      decl_is = (let same : n.1 ≡ d = (let s : Some n.1 ≡ Some d = is in cc) in same);
      before = λ i e lt at. absurd (omega (arith, lt));
    }
    by false t is rest = (let r = rest is in record {
      place = suc r.place;
      named = r.named;
      there = r.there;
      name_is = r.name_is;
      decl_is = r.decl_is;
      before = λ i e lt at. earlier r i e lt at;
    })
      where
        earlier : (r : IsFirst ns name d) (i : ℕ) (e : List ℕ × DeclRef) → i < suc r.place → slice_get (n ∷ ns) i ≡ Some e → bytes_eq name e.0 ≡ false
        earlier r zero e lt at = (let same : n ≡ e = (let s : Some n ≡ Some e = at in cc) in ap (λ (x : List ℕ × DeclRef). bytes_eq name x.0) (sym same) ∙ t)
        earlier r (suc i) e lt at = r.before i e (omega (arith, lt)) at

-- what a search finds

spelled : (ns : Names) (i : ℕ) (e : List ℕ × DeclRef) → slice_get ns i ≡ Some e → spelling_at ns i ≡ e.0
spelled ns i e at = ap spelling_or at

not_below_itself : (a : List ℕ) → is_lt (text_cmp a a) ≡ false
not_below_itself a = ap is_lt (tied_itself nat_list_cmp_total a)

-- of two places with one spelling, where the second does not stand before the first
level : (a name : List ℕ) (i j : ℕ) → is_lt (text_cmp a name) ≡ false → is_lt (ordering_then (text_cmp name a) (nat_cmp j i)) ≡ false → (a ≡ name) × (is_lt (nat_cmp j i) ≡ false)
level a name i j upto far = by (text_cmp name a) refl far
  where
    by : (o : Ordering) → text_cmp name a ≡ o → is_lt (ordering_then o (nat_cmp j i)) ≡ false → (a ≡ name) × (is_lt (nat_cmp j i) ≡ false)
    by Less e h = absurd (true≢false h)
    by Equal e h = (sym (exact_bytes name a e), h)
    by Greater e h = absurd (true≢false (sym (ap is_lt (reversed a name ∙ ap ordering_reverse e)) ∙ upto))

lt_cmp : (j i : ℕ) → j < i → is_lt (nat_cmp j i) ≡ true
lt_cmp j i lt = ap (λ b. is_lt (cond b Less (cond (nat_eq j i) Equal Greater))) (lt-ltb j i lt)

abbrev IsSplit : Names → List ℕ → List ℕ → ℕ → Type 0
IsSplit ns order name p = IsPartitionPoint (λ (i : ℕ). is_below ns name i ≡ true) (λ (i : ℕ). is_below ns name i ≡ false) order p

module _ (ns : Names) (order name : List ℕ) (p : ℕ) (h : IsNameOrder ns order) (split : IsSplit ns order name p) where
  -- the place in the order of the first of a name does not lie before the split
  first_behind : (d : DeclRef) (f : IsFirst ns name d) → (q : ℕ) × (q < length order) × (get_or order q f.place ≡ f.place) × (p ≤ q)
  first_behind d f =
      let c = h.every f.place (slice_get_within ns f.place f.named f.there) in
      let name_is : name ≡ f.named.0 = (bytes_eq-Decides name f.named.0).0 f.name_is in
      let own : spelling_at ns f.place ≡ name = spelled ns f.place f.named f.there ∙ sym name_is in (
        c.0,
        c.1,
        c.2,
        elim (cases_lt c.0 p) [
          | inl less ↦ (
              let below : is_below ns name f.place ≡ true = ap (is_below ns name) (sym c.2) ∙ split.0 c.0 f.place (omega arith) less in
              let not : is_below ns name f.place ≡ false = ap (λ (t : List ℕ). is_lt (text_cmp t name)) own ∙ not_below_itself name in
              absurd (true≢false (sym below ∙ not))
              )
          | inr upto ↦ upto
        ],
      )

  -- nothing stands behind the split
  pub found_past : slice_get order p ≡ None → None ≡ in_block ns name
  found_past past = by (in_block ns name) refl
    where
      by : (o : Option DeclRef) → in_block ns name ≡ o → None ≡ o
      by None e = refl
      by (Some d) e =
          let b = first_behind d (first_named ns name d e) in
          let within = b.1 in
          let behind = b.3 in
          let lt : p < length order = omega (arith, within, behind) in
          let at : slice_get order p ≡ Some (get_or order p 0) = slice_get-get_or order p 0 lt in
          absurd (let no : None ≡ Some (get_or order p 0) = sym past ∙ at in cc)

  first_at : (i : ℕ) (d : DeclRef) (f : IsFirst ns name d) → slice_get order p ≡ Some i → i ≡ f.place
  first_at i d f at =
      let b = first_behind d f in
      let within = b.1 in
      let behind = b.3 in
      let lt : p < length order = slice_get_within order p i at in
      let read : get_or order p f.place ≡ i = get_or_from_slice_get order p i f.place at in
      let name_is : name ≡ f.named.0 = (bytes_eq-Decides name f.named.0).0 f.name_is in
      let own : spelling_at ns f.place ≡ name = spelled ns f.place f.named f.there ∙ sym name_is in
      let not_below : is_below ns name i ≡ false = ap (is_below ns name) (sym read) ∙ split.1 p f.place (omega arith) lt in
      let far : is_lt (by_spelling ns f.place i) ≡ false =
      ap (λ (x : ℕ). is_lt (by_spelling ns x i)) (sym b.2)
      ∙ (ap (λ (x : ℕ). is_lt (by_spelling ns (get_or order b.0 f.place) x)) (sym read)
      ∙ sorted_far (λ (x y : ℕ). is_lt (by_spelling ns x y)) (by_weak ns) order h.sorted p b.0 f.place behind within) in
      let ranked = level (spelling_at ns i) name i f.place not_below (ap (λ (t : List ℕ). is_lt (ordering_then (text_cmp t (spelling_at ns i)) (nat_cmp f.place i))) (sym own) ∙ far) in
      elim (cases_order i f.place) [
        | inl same ↦ same
        | inr apart ↦ elim apart [
          | inl less ↦ (
              let inside : i < length ns = (let l = slice_get_within ns f.place f.named f.there in omega (arith, less, l)) in
              let e = get_or ns i f.named in
              let there : slice_get ns i ≡ Some e = slice_get-get_or ns i f.named inside in
              let named : name ≡ e.0 = sym ranked.0 ∙ spelled ns i e there in
              absurd (true≢false (sym ((bytes_eq-Decides name e.0).1 named) ∙ f.before i e less there))
              )
          | inr more ↦ absurd (true≢false (sym (lt_cmp f.place i more) ∙ ranked.1))
        ]
      ]

  -- the first place behind the split has the name, or no place has
  pub found_at : (i : ℕ) → slice_get order p ≡ Some i → decl_if (slice_get ns i) name ≡ in_block ns name
  found_at i at = by (in_block ns name) refl
    where
      none : in_block ns name ≡ None → (o : Option (List ℕ × DeclRef)) → slice_get ns i ≡ o → decl_if o name ≡ None
      none e None there = refl
      none e (Some n) there = ap (λ b. if b then Some n.1 else None) (none_named ns name e i n there)

      by : (o : Option DeclRef) → in_block ns name ≡ o → decl_if (slice_get ns i) name ≡ o
      by None e = none e (slice_get ns i) refl
      by (Some d) e =
          let f = first_named ns name d e in
          let same : i ≡ f.place = first_at i d f at in
          ap (λ o. decl_if o name) (ap (slice_get ns) same ∙ f.there)
          ∙ (ap (λ b. if b then Some f.named.1 else None) f.name_is ∙ ap Some f.decl_is)
