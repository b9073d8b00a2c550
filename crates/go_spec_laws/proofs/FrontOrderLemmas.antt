-- Which of two declarations comes first, by the test, by the comparison and by where they stand.
use Rattle.std.proofs.Common.{◌≡◌, ◌↔◌, ◌⊎◌, ℕ, zero, suc, ◌+◌, ◌<◌, ◌≤◌, true, ◌&&◌, inl, inr, List, [], ◌∷◌, ◌++◌, get_or, All, Option, Some, None, slice_get, option_map, refl, sym, ap, ◌∙◌, subst, arith}
use Rattle.std.specs.Prelude.{nat_eq, nat_lt}
use Rattle.std.specs.Ordering.{nat_cmp, ordering_then}
use Rattle.std.specs.declared.cmp.Ordering.{Ordering}
use Rattle.std.specs.declared.cmp.Ordering.TheVariants.{Less, Equal, Greater}
use Rattle.std.proofs.lemmas.Bool.{and_from, and_parts, cases_order, eq-eqb, eqb-true, lt-ltb, ltb-true, or_cases, or_left, or_right}
use Rattle.std.proofs.lemmas.Cmp.{ranked}
use Rattle.std.proofs.lemmas.List.{get_or_default}
use Rattle.std.proofs.lemmas.Option.{get_or_from_slice_get, slice_get-map, slice_get_within}
use Rattle.go_tree_nodes.specs.Spelling.{IsPlaced}
use Rattle.go_tree_nodes.specs.Trees.{FileTree}
use Rattle.go_term_core.specs.decl_core.declared.keys.DeclRef.{DeclRef}
use Rattle.go_term_core.specs.decl_core.declared.places.Place.{Place}
use Rattle.go_term_core.specs.decl_core.Laws.{HasPlace, KnownDecl, if_whole, known, place_in, wholes}
use Rattle.go_term_core.specs.decl_core.Order.{is_ref_before, place_cmp}
use Rattle.go_term_core.specs.decl_core.Outer.{Embedded, Manner, Outer, Part, Whole, outer_names, places_of}
use Rattle.go_term_core.specs.decl_core.Table.{IsAt, Rise}
use Rattle.go_term_core.specs.decl_core.TopDecls.{TopDeclTree, top_decls}
use Rattle.go_term_core.specs.decl_core.Numbers.{numbers_are_places}
use Rattle.go_term_core.specs.decl_core.OrderProofs.{places_rise}
use Rattle.go_term_core.specs.decl_core.Tables.{offset_at}
use Rattle.go_spec_laws.specs.front.OrderLaws.{DeclarationsHaveOneOrder, IsOneOfThree, IsOnePlace, ref_in}

-- ---- the test

-- by file, and in one file by number
abbrev Before : DeclRef → DeclRef → Type 0
Before a b = (a.file < b.file) ⊎ ((a.file ≡ b.file) × (a.number < b.number))

before_is : (a b : DeclRef) → is_ref_before a b ≡ true ↔ Before a b
before_is a b = (from, into)
  where
    from : is_ref_before a b ≡ true → Before a b
    from h = elim (or_cases (nat_lt a.file b.file) (nat_eq a.file b.file && nat_lt a.number b.number) h) [
      | inl f ↦ inl (ltb-true a.file b.file f)
      | inr s ↦ (let p = and_parts (nat_eq a.file b.file) (nat_lt a.number b.number) s in inr (eqb-true a.file b.file p.0, ltb-true a.number b.number p.1))
    ]

    into : Before a b → is_ref_before a b ≡ true
    into h = elim h [
      | inl f ↦ or_left (nat_lt a.file b.file) (nat_eq a.file b.file && nat_lt a.number b.number) (lt-ltb a.file b.file f)
      | inr s ↦ or_right (nat_lt a.file b.file) (nat_eq a.file b.file && nat_lt a.number b.number) (and_from (nat_eq a.file b.file) (nat_lt a.number b.number) (eq-eqb a.file b.file s.0) (lt-ltb a.number b.number s.1))
    ]

before_on : (a b c : DeclRef) → Before a b → Before b c → Before a c
before_on a b c h k = elim h [
  | inl f ↦ elim k [ inl g ↦ inl (omega (arith, f, g)) | inr s ↦ (let e = s.0 in inl (omega (arith, f, e))) ]
  | inr s ↦ elim k [ inl g ↦ (let e = s.0 in inl (omega (arith, e, g))) | inr r ↦ (let lt = s.1 in let mt = r.1 in inr (s.0 ∙ r.0, omega (arith, lt, mt))) ]
]

-- one that is before another does not stand at its place
before_apart : (a b : DeclRef) → Before a b → IsOnePlace a b → ⊥
before_apart a b h same =
    let file = same.0 in
    let number = same.1 in
    elim h [ inl f ↦ omega (arith, file, f) | inr s ↦ (let lt = s.1 in omega (arith, number, lt)) ]

before_once : (a b : DeclRef) → Before a b → Before b a → ⊥
before_once a b h k = before_apart a a (before_on a b a h k) (refl, refl)

-- ---- the comparison

-- what an answer of the comparison says
abbrev Says : DeclRef → DeclRef → Ordering → Type 0
Says a b Less = Before a b
Says a b Equal = IsOnePlace a b
Says a b Greater = Before b a

says_it : (a b : DeclRef) → Says a b (place_cmp a b)
says_it a b = by (nat_cmp a.file b.file) (nat_cmp a.number b.number) refl refl
  where
    by : (s t : Ordering) → nat_cmp a.file b.file ≡ s → nat_cmp a.number b.number ≡ t → Says a b (ordering_then s t)
    by Less t e d = inl (ranked a.file b.file Less (sym e))
    by Equal Less e d = inr (ranked a.file b.file Equal (sym e), ranked a.number b.number Less (sym d))
    by Equal Equal e d = (ranked a.file b.file Equal (sym e), ranked a.number b.number Equal (sym d))
    by Equal Greater e d = inr (sym (ranked a.file b.file Equal (sym e)), ranked a.number b.number Greater (sym d))
    by Greater t e d = inl (ranked a.file b.file Greater (sym e))

says : (a b : DeclRef) (o : Ordering) → place_cmp a b ≡ o → Says a b o
says a b o e = subst (λ (x : Ordering). Says a b x) e (says_it a b)

is_less : (a b : DeclRef) → Before a b → place_cmp a b ≡ Less
is_less a b h = by (place_cmp a b) refl
  where
    by : (o : Ordering) → place_cmp a b ≡ o → place_cmp a b ≡ Less
    by Less e = e
    by Equal e = absurd (before_apart a b h (says a b Equal e))
    by Greater e = absurd (before_once a b h (says a b Greater e))

is_greater : (a b : DeclRef) → Before b a → place_cmp a b ≡ Greater
is_greater a b h = by (place_cmp a b) refl
  where
    by : (o : Ordering) → place_cmp a b ≡ o → place_cmp a b ≡ Greater
    by Less e = absurd (before_once a b (says a b Less e) h)
    by Equal e = (let p = says a b Equal e in absurd (before_apart b a h (sym p.0, sym p.1)))
    by Greater e = e

is_equal : (a b : DeclRef) → IsOnePlace a b → place_cmp a b ≡ Equal
is_equal a b h = by (place_cmp a b) refl
  where
    by : (o : Ordering) → place_cmp a b ≡ o → place_cmp a b ≡ Equal
    by Less e = absurd (before_apart a b (says a b Less e) h)
    by Equal e = e
    by Greater e = absurd (before_apart b a (says a b Greater e) (sym h.0, sym h.1))

-- ---- one of three

three : (a b : DeclRef) → IsOneOfThree (is_ref_before a b ≡ true) (IsOnePlace a b) (is_ref_before b a ≡ true)
three a b = by (place_cmp a b) refl
  where
    by : (o : Ordering) → place_cmp a b ≡ o → IsOneOfThree (is_ref_before a b ≡ true) (IsOnePlace a b) (is_ref_before b a ≡ true)
    by Less e = (let h = says a b Less e in inl ((before_is a b).1 h, before_apart a b h, λ k. before_once a b h ((before_is b a).0 k)))
    by Equal e = (let p = says a b Equal e in inr (inl (λ k. before_apart a b ((before_is a b).0 k) p, p, λ k. before_apart b a ((before_is b a).0 k) (sym p.0, sym p.1))))
    by Greater e = (let h = says a b Greater e in inr (inr (λ k. before_once a b ((before_is a b).0 k) h, λ p. before_apart b a h (sym p.0, sym p.1), (before_is b a).1 h)))

-- ---- where they stand

-- of two identifiers of a table, that with the lower number stands first
lower_first : (ps : List Place) → Rise ps → (j k m n : ℕ) → IsAt ps m j → IsAt ps n k → j < k → m < n
lower_first ps rise j k m n h g lt =
    let a = offset_at ps j m h in
    let b = offset_at ps k n g in
    let low : (get_or ps j a.0).at ≡ m = ap (λ p. p.at) a.2 ∙ a.3 in
    let high : (get_or ps k b.0).at ≡ n = ap (λ p. p.at) b.2 ∙ b.3 in
    let less = rise j k a.0 lt b.1 in
    let same : get_or ps k a.0 ≡ get_or ps k b.0 = get_or_default ps k a.0 b.0 b.1 in
    omega (arith, less, low, high, ap (λ p. p.at) same)

one_offset : (ps : List Place) (j k m n : ℕ) → IsAt ps m j → IsAt ps n k → j ≡ k → m ≡ n
one_offset ps j k m n h g e =
    let there : IsAt ps n j = subst (λ i. IsAt ps n i) (sym e) g in
    let both : Some m ≡ Some n = sym h ∙ there in
    cc

first_lower : (ps : List Place) → Rise ps → (j k m n : ℕ) → IsAt ps m j → IsAt ps n k → m < n → j < k
first_lower ps rise j k m n h g lt = elim (cases_order j k) [
  | inl e ↦ (let same = one_offset ps j k m n h g e in absurd (omega (arith, same, lt)))
  | inr apart ↦ elim apart [
    | inl less ↦ less
    | inr more ↦ (let back = lower_first ps rise k j n m g h more in absurd (omega (arith, back, lt)))
  ]
]

in_one_file : (a b : DeclRef) (m n : ℕ) (found : Option FileTree) → ((f : FileTree) → found ≡ Some f → IsPlaced f) → place_in found a.number ≡ Some (record { at = m; kind = a.kind }) → place_in found b.number ≡ Some (record { at = n; kind = b.kind }) → a.number < b.number ↔ m < n
in_one_file a b m n None placed h g = (let p : Place = record { at = m; kind = a.kind } in let no : None ≡ Some p = h in cc)
in_one_file a b m n (Some f) placed h g =
    let rise = places_rise f (placed f refl) in
    let here : IsAt (places_of f) m a.number = ap (option_map (λ p. p.at)) h in
    let there : IsAt (places_of f) n b.number = ap (option_map (λ p. p.at)) g in
    (lower_first (places_of f) rise a.number b.number m n here there, first_lower (places_of f) rise a.number b.number m n here there)

-- of one file, by number
by_number : (a b : DeclRef) → a.file ≡ b.file → is_ref_before a b ≡ true ↔ a.number < b.number
by_number a b same = (λ h. elim ((before_is a b).0 h) [ inl f ↦ absurd (omega (arith, same, f)) | inr s ↦ s.1 ], λ lt. (before_is a b).1 (inr (same, lt)))

by_text : (files : List FileTree) → All IsPlaced files → (a b : DeclRef) (m n : ℕ) → HasPlace files a m → HasPlace files b n → a.file ≡ b.file → is_ref_before a b ≡ true ↔ m < n
by_text files all a b m n h g same =
    let numbers = by_number a b same in
    let there = in_one_file a b m n (slice_get files a.file) placed h (ap (λ k. place_in (slice_get files k) b.number) same ∙ g) in
    (λ before. there.0 (numbers.0 before), λ lt. numbers.1 (there.1 lt))
  where
    placed : (f : FileTree) → slice_get files a.file ≡ Some f → IsPlaced f
    placed f e = subst IsPlaced (get_or_from_slice_get files a.file f f e) (all a.file f (slice_get_within files a.file f e))

-- ---- where a file's tree has them

-- numbers that rise from one on
abbrev RiseFrom : ℕ → List KnownDecl → Type 0
RiseFrom n [] = Unit {0}
RiseFrom n (w ∷ ws) = (n ≤ w.number) × RiseFrom (w.number + 1) ws

rise_lower : (ws : List KnownDecl) (low lower : ℕ) → lower ≤ low → RiseFrom low ws → RiseFrom lower ws
rise_lower [] low lower le h = tt
rise_lower (w ∷ ws) low lower le h = (let first = h.0 in omega (arith, le, first), h.1)

rise_case : (m : Manner) (w : KnownDecl) (n : ℕ) (ws : List KnownDecl) → w.number ≡ n → RiseFrom (n + 1) ws → RiseFrom n (if_whole m w ++ ws)
rise_case Whole w n ws is h = (omega (arith, is), subst (λ k. RiseFrom (k + 1) ws) (sym is) h)
rise_case Part w n ws is h = rise_lower ws (n + 1) n (omega arith) h
rise_case Embedded w n ws is h = rise_lower ws (n + 1) n (omega arith) h

wholes_rise : (os : List Outer) (n : ℕ) → RiseFrom n (wholes n os)
wholes_rise [] n = tt
wholes_rise (o ∷ os) n = rise_case o.manner (record { ident = o.ident; number = n; kind = o.kind }) n (wholes (n + 1) os) refl (wholes_rise os (n + 1))

at_least : (ws : List KnownDecl) (n k : ℕ) (w : KnownDecl) → RiseFrom n ws → slice_get ws k ≡ Some w → n ≤ w.number
at_least [] n k w h e = (let no : None ≡ Some w = e in cc)
at_least (v ∷ ws) n zero w h e = (let both : Some v ≡ Some w = e in let same : v ≡ w = cc in let number = ap (λ x. x.number) same in let first = h.0 in omega (arith, first, number))
at_least (v ∷ ws) n (suc k) w h e = (let rest = at_least ws (v.number + 1) k w h.1 e in let first = h.0 in omega (arith, first, rest))

later_higher : (ws : List KnownDecl) (n j k : ℕ) (v w : KnownDecl) → RiseFrom n ws → slice_get ws j ≡ Some v → slice_get ws k ≡ Some w → j < k → v.number < w.number
later_higher [] n j k v w h e g lt = (let no : None ≡ Some v = e in cc)
later_higher (u ∷ ws) n zero zero v w h e g lt = absurd (omega (arith, lt))
later_higher (u ∷ ws) n zero (suc k) v w h e g lt =
    let both : Some u ≡ Some v = e in
    let same : u ≡ v = cc in
    let number = ap (λ x. x.number) same in
    let rest = at_least ws (u.number + 1) k w h.1 g in
    omega (arith, number, rest)
later_higher (u ∷ ws) n (suc j) zero v w h e g lt = absurd (omega (arith, lt))
later_higher (u ∷ ws) n (suc j) (suc k) v w h e g lt = later_higher ws (u.number + 1) j k v w h.1 e g (omega (arith, lt))

-- of two declarations of a file, that which its tree has first has the lower number
later_in_tree : (f : FileTree) (j k : ℕ) (d e : TopDeclTree) → slice_get (top_decls f) j ≡ Some d → slice_get (top_decls f) k ≡ Some e → j < k → d.number < e.number
later_in_tree f j k d e h g lt = later_higher (wholes 0 (outer_names f)) 0 j k (known d) (known e) (wholes_rise (outer_names f) 0) (there j d h) (there k e g) lt
  where
    there : (i : ℕ) (x : TopDeclTree) → slice_get (top_decls f) i ≡ Some x → slice_get (wholes 0 (outer_names f)) i ≡ Some (known x)
    there i x at = ap (λ ws. slice_get ws i) (sym (numbers_are_places.table f)) ∙ (slice_get-map known (top_decls f) i ∙ ap (option_map known) at)

same_in_tree : (f : FileTree) (j k : ℕ) (d e : TopDeclTree) → slice_get (top_decls f) j ≡ Some d → slice_get (top_decls f) k ≡ Some e → j ≡ k → d.number ≡ e.number
same_in_tree f j k d e h g same =
    let both : Some d ≡ Some e = sym h ∙ (ap (λ i. slice_get (top_decls f) i) same ∙ g) in
    let one : d ≡ e = cc in
    ap (λ x. x.number) one

by_tree : (f : FileTree) (file j k : ℕ) (d e : TopDeclTree) → slice_get (top_decls f) j ≡ Some d → slice_get (top_decls f) k ≡ Some e → is_ref_before (ref_in file d) (ref_in file e) ≡ true ↔ j < k
by_tree f file j k d e h g =
    let numbers = by_number (ref_in file d) (ref_in file e) refl in
    (λ before. earlier (numbers.0 before), λ lt. numbers.1 (later_in_tree f j k d e h g lt))
  where
    earlier : d.number < e.number → j < k
    earlier lt = elim (cases_order j k) [
      | inl same ↦ (let one = same_in_tree f j k d e h g same in absurd (omega (arith, one, lt)))
      | inr apart ↦ elim apart [
        | inl less ↦ less
        | inr more ↦ (let back = later_in_tree f k j e d g h more in absurd (omega (arith, back, lt)))
      ]
    ]

pub declarations_have_one_order : DeclarationsHaveOneOrder
declarations_have_one_order = record {
  same = λ a b. (λ h. is_less a b ((before_is a b).0 h), λ e. (before_is a b).1 (says a b Less e));
  behind = λ a b. (λ h. is_greater a b ((before_is b a).0 h), λ e. (before_is b a).1 (says a b Greater e));
  level = λ a b. (is_equal a b, says a b Equal);
  never_itself = λ a h. before_apart a a ((before_is a a).0 h) (refl, refl);
  carried_on = λ a b c h k. (before_is a c).1 (before_on a b c ((before_is a b).0 h) ((before_is b c).0 k));
  one_of_three = three;
  by_file = λ a b lt. (before_is a b).1 (inl lt);
  by_text = by_text;
  by_tree = by_tree;
}
