-- The declarations of a file stand in order of number.
use Rattle.std.proofs.Common.{◌≡◌, ℕ, zero, suc, ◌+◌, ◌<◌, ◌≤◌, inl, inr, true, false, List, [], ◌∷◌, ◌++◌, length, get_or, map, Some, refl, sym, ap, ◌∙◌, subst, arith}
use Rattle.std.specs.Prelude.{All, AllPairs, nat_lt, slice_get}
use Rattle.std.specs.List.Sorted.{IsPartitionPoint, IsPartitionedBy}
use Rattle.std.proofs.lemmas.Bool.{cases_lt}
use Rattle.std.proofs.lemmas.List.Elements.{All-cons, All-weaker}
use Rattle.std.proofs.lemmas.List.Kept.{AllPairs-cons}
use Rattle.std.proofs.lemmas.Option.{get_or_from_slice_get, slice_get_within}
use Rattle.go_tree_nodes.specs.Trees.{FileTree}
use Rattle.go_block_core.specs.decl_core.Laws.{KnownDecl, if_whole, known, wholes}
use Rattle.go_block_core.specs.decl_core.Outer.{Embedded, Manner, Outer, Part, Whole, outer_names}
use Rattle.go_block_core.specs.decl_core.Shown.{decl_shown}
use Rattle.go_block_core.specs.decl_core.TopDecls.{TopDeclTree, top_decls}
use Rattle.go_block_core.specs.decl_core.declared.tops.TopDecl.{TopDecl}
use Rattle.go_block_core.specs.decl_core.Numbers.{numbers_are_places}
use Rattle.go_doc_core.specs.symbol.mirrors.Docs.{AreRising, HasNumber, HasNumberAt}

-- the table's numbers rise

abbrev IsBelow : KnownDecl → KnownDecl → Type 0
IsBelow j k = j.number < k.number

all_from : (n : ℕ) (os : List Outer) → All (λ (k : KnownDecl). n ≤ k.number) (wholes n os)
all_from n [] = λ k d lt. absurd (omega (arith, lt))
all_from n (o ∷ os) =
    by o.manner (All-weaker (λ (k : KnownDecl). n + 1 ≤ k.number) (λ (k : KnownDecl). n ≤ k.number) (λ k h. omega (arith, h)) (wholes (n + 1) os) (all_from (n + 1) os))
  where
    by : (m : Manner) → All (λ (k : KnownDecl). n ≤ k.number) (wholes (n + 1) os) → All (λ (k : KnownDecl). n ≤ k.number) (if_whole m (record { ident = o.ident; number = n; kind = o.kind }) ++ wholes (n + 1) os)
    by Whole h = All-cons (λ (k : KnownDecl). n ≤ k.number) (record { ident = o.ident; number = n; kind = o.kind }) (wholes (n + 1) os) (omega arith) h
    by Part h = h
    by Embedded h = h

pairs_from : (n : ℕ) (os : List Outer) → AllPairs IsBelow (wholes n os)
pairs_from n [] = λ i j d less lt. absurd (omega (arith, lt))
pairs_from n (o ∷ os) = by o.manner (all_from (n + 1) os) (pairs_from (n + 1) os)
  where
    by : (m : Manner) → All (λ (k : KnownDecl). n + 1 ≤ k.number) (wholes (n + 1) os) → AllPairs IsBelow (wholes (n + 1) os) → AllPairs IsBelow (if_whole m (record { ident = o.ident; number = n; kind = o.kind }) ++ wholes (n + 1) os)
    by Whole low h =
        AllPairs-cons IsBelow (record { ident = o.ident; number = n; kind = o.kind }) (wholes (n + 1) os)
        (All-weaker (λ (k : KnownDecl). n + 1 ≤ k.number) (λ (k : KnownDecl). n < k.number) (λ k l. omega (arith, l)) (wholes (n + 1) os) low) h
    by Part low h = h
    by Embedded low h = h

mapped_at : {A B : Type 0} (f : A → B) (xs : List A) (i : ℕ) (d : A) → get_or (map f xs) i (f d) ≡ f (get_or xs i d)
mapped_at f [] i d = refl
mapped_at f (x ∷ xs) zero d = refl
mapped_at f (x ∷ xs) (suc i) d = mapped_at f xs i d

mapped_length : {A B : Type 0} (f : A → B) (xs : List A) → length (map f xs) ≡ length xs
mapped_length f [] = refl
mapped_length f (x ∷ xs) = ap suc (mapped_length f xs)

pub rising : (f : FileTree) → AreRising (top_decls f)
rising f = λ i j d less lt.
    let long : j < length (map known (top_decls f)) = omega (arith, lt, mapped_length known (top_decls f)) in
    let all : AllPairs IsBelow (map known (top_decls f)) = subst (λ (ks : List KnownDecl). AllPairs IsBelow ks) (sym (numbers_are_places.table f)) (pairs_from 0 (outer_names f)) in
    let here : IsBelow (get_or (map known (top_decls f)) i (known d)) (get_or (map known (top_decls f)) j (known d)) = all i j (known d) less long in
    subst (λ (k : KnownDecl). k.number < (get_or (top_decls f) j d).number) (mapped_at known (top_decls f) i d)
    (subst (λ (k : KnownDecl). (get_or (map known (top_decls f)) i (known d)).number < k.number) (mapped_at known (top_decls f) j d) here)

-- the place of a number

some_of : {A : Type 0} (xs : List A) (i : ℕ) → i < length xs → A
some_of [] i lt = absurd (omega (arith, lt))
some_of (x ∷ xs) i lt = x

pub part_rising : (ds : List TopDecl) (number : ℕ) → AreRising (map decl_shown ds) → IsPartitionedBy (λ (d : TopDecl). nat_lt d.number number) ds
part_rising ds number rises i j d le lt less = elim (cases_lt i j) [
  | inl before ↦
      let long : j < length (map decl_shown ds) = omega (arith, lt, mapped_length decl_shown ds) in
      let here = rises i j (decl_shown d) before long in
      let up : (get_or ds i d).number < (get_or ds j d).number =
      subst (λ (k : TopDeclTree). k.number < (get_or ds j d).number) (mapped_at decl_shown ds i d)
      (subst (λ (k : TopDeclTree). (get_or (map decl_shown ds) i (decl_shown d)).number < k.number) (mapped_at decl_shown ds j d) here) in
      lower (get_or ds i d).number (get_or ds j d).number number up less
  | inr same ↦ (let e : j ≡ i = omega (arith, le, same) in subst (λ (k : ℕ). nat_lt (get_or ds k d).number number ≡ true) e less)
]
  where
    lower : (a b n : ℕ) → a < b → nat_lt b n ≡ true → nat_lt a n ≡ true
    lower a b n up less = grind arith

pub place_found : (ds : List TopDecl) (number n : ℕ) → AreRising (map decl_shown ds) → HasNumber (map decl_shown ds) number → IsPartitionPoint (λ (d : TopDecl). nat_lt d.number number ≡ true) (λ (d : TopDecl). nat_lt d.number number ≡ false) ds n → (n < length ds) × HasNumberAt (map decl_shown ds) n number
place_found ds number n rises has split =
    let place : ℕ = has.0 in
    let there : TopDeclTree = has.1.0 in
    let long : place < length (map decl_shown ds) = slice_get_within (map decl_shown ds) place there has.1.1 in
    let lt : place < length ds = omega (arith, long, mapped_length decl_shown ds) in
    by place there lt long has.1.1 has.1.2
  where
    not_less : (a n : ℕ) → a ≡ n → nat_lt a n ≡ true → ⊥
    not_less a n e h = grind arith

    up_to : (a n : ℕ) → nat_lt a n ≡ false → n ≤ a
    up_to a n h = grind arith

    by : (place : ℕ) (there : TopDeclTree) → place < length ds → place < length (map decl_shown ds) → slice_get (map decl_shown ds) place ≡ Some there → there.number ≡ number → (n < length ds) × HasNumberAt (map decl_shown ds) n number
    by place there lt long at is = elim (cases_lt place n) [
      | inl before ↦ absurd (below before)
      | inr behind ↦ elim (cases_lt n place) [
        | inl first ↦ absurd (above first)
        | inr upto ↦
            let same : place ≡ n = omega (arith, behind, upto) in
            (subst (λ (k : ℕ). k < length ds) same lt, (there, subst (λ (k : ℕ). slice_get (map decl_shown ds) k ≡ Some there) same at, is))
      ]
    ]
      where
        d : TopDecl
        d = some_of ds place lt

        number_at : (get_or ds place d).number ≡ number
        number_at =
            let a : get_or (map decl_shown ds) place (decl_shown d) ≡ there = get_or_from_slice_get (map decl_shown ds) place there (decl_shown d) at in
            let b : decl_shown (get_or ds place d) ≡ there = sym (mapped_at decl_shown ds place d) ∙ a in
            ap (λ (k : TopDeclTree). k.number) b ∙ is

        below : place < n → ⊥
        below before = not_less (get_or ds place d).number number number_at (split.0 place d (omega arith) before)

        above : n < place → ⊥
        above first =
            let here = rises n place (decl_shown d) first long in
            let up : (get_or ds n d).number < (get_or ds place d).number =
            subst (λ (k : TopDeclTree). k.number < (get_or ds place d).number) (mapped_at decl_shown ds n d)
            (subst (λ (k : TopDeclTree). (get_or (map decl_shown ds) n (decl_shown d)).number < k.number) (mapped_at decl_shown ds place d) here) in
            let low : number ≤ (get_or ds n d).number = up_to (get_or ds n d).number number (split.1 n d (omega arith) (omega (arith, first, lt))) in
            omega (arith, up, low, number_at)

-- those of a file

pub shown_rising : (ds xs : List TopDecl) (f : FileTree) → ds ≡ xs → map decl_shown xs ≡ top_decls f → AreRising (map decl_shown ds)
shown_rising ds xs f same are = subst AreRising (sym (ap (map decl_shown) same ∙ are)) (rising f)
