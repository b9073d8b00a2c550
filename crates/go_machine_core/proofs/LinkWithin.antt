-- The numbers of a program are those of its functions and packages.
use Rattle.std.proofs.Common.{◌≡◌, ℕ, zero, suc, ◌+◌, ◌<◌, ◌≤◌, Bool, true, false, cond, List, [], ◌∷◌, ◌++◌, length, map, Option, Some, None, refl, sym, ap, ◌∙◌, subst, arith}
use Rattle.std.specs.Prelude.{IfSome, codes, option_map, slice_get}
use Rattle.std.specs.List.{flat_map, position_from}
use Rattle.std.specs.Str.{bytes_eq}
use Rattle.std.proofs.lemmas.List.{length-map, length-append}
use Rattle.std.proofs.lemmas.Option.{slice_get_within}
use Rattle.go_collections_core.specs.declared.spelling_index.spellings.Spelling.{Spelling}
use Rattle.go_collections_core.specs.spelling_index.Spelled.{joined, spelled, spelled_from, spelled_if}
use Rattle.go_object_core.specs.Objects.{FunctionOf, ObjectOf}
use Rattle.go_machine_core.specs.Programs.{LinkedOf}
use Rattle.go_machine_core.specs.declared.link.linking.Entry.{Entry}
use Rattle.go_machine_core.specs.link.Functions.{PlaceModel, all_functions, functions_of, is_at, is_called, linked_of, number_at, number_if, number_of, numbers_called, places_of}
use Rattle.go_machine_core.specs.link.Packages.{PackageOf, entry_at, entry_if, entry_in, entry_of, package_number, package_of, packages_from, packages_of}
use Rattle.go_machine_core.specs.link.Order.{in_turn, initialised, inits_in, starts_of}
use Rattle.go_machine_core.specs.link.mirrors.Numbering.{AreBelow, AreRowsBelow, IsRowBelow}
use Rattle.go_machine_core.specs.link.mirrors.Layouts.{AreWithin, layout_of}

-- numbers below a count

pub below_more : (a b : ℕ) (ns : List ℕ) → a ≤ b → AreBelow a ns → AreBelow b ns
below_more a b [] le h = tt
below_more a b (n ∷ ns) le h = (omega (arith, le, h.0), below_more a b ns le h.1)

pub below_append : (a : ℕ) (xs ys : List ℕ) → AreBelow a xs → AreBelow a ys → AreBelow a (xs ++ ys)
below_append a [] ys h k = k
below_append a (x ∷ xs) ys h k = (h.0, below_append a xs ys h.1 k)

pub below_left : (a : ℕ) (xs ys : List ℕ) → AreBelow a (xs ++ ys) → AreBelow a xs
below_left a [] ys h = tt
below_left a (x ∷ xs) ys h = (h.0, below_left a xs ys h.1)

pub below_right : (a : ℕ) (xs ys : List ℕ) → AreBelow a (xs ++ ys) → AreBelow a ys
below_right a [] ys h = h
below_right a (x ∷ xs) ys h = below_right a xs ys h.1

-- what is found in a list

pub position_within : {A : Type 0} (test : A → Bool) (xs : List A) (n k : ℕ) → position_from test n xs ≡ Some k → k < n + length xs
position_within test [] n k e = cc
position_within test (x ∷ xs) n k e = by (test x) e (position_within test xs (n + 1) k)
  where
    by : (b : Bool) → cond b (Some n) (position_from test (n + 1) xs) ≡ Some k → (position_from test (n + 1) xs ≡ Some k → k < n + 1 + length xs) → k < n + suc (length xs)
    by true e ih = (let same : n ≡ k = cc in omega (arith, same))
    by false e ih = (let lt = ih e in omega (arith, lt))

abbrev pub first_in : Option Spelling → ℕ
first_in None = 0
first_in (Some s) = s.first

spelled_within : (names : List (List ℕ)) (name : List ℕ) (n : ℕ) (s : Spelling) → spelled_from n names name ≡ Some s → s.first < n + length names
spelled_within [] name n s e = cc
spelled_within (m ∷ ms) name n s e = by (bytes_eq name m) (spelled_from (n + 1) ms name) e (λ h. spelled_within ms name (n + 1) s h)
  where
    by : (b : Bool) (o : Option Spelling) → joined (spelled_if n b) o ≡ Some s → (o ≡ Some s → s.first < n + 1 + length ms) → s.first < n + suc (length ms)
    by true None e h = (let same : n ≡ s.first = ap first_in e in omega (arith, same))
    by true (Some t) e h = (let same : n ≡ s.first = ap first_in e in omega (arith, same))
    by false o e h = (let lt = h e in omega (arith, lt))

-- the callees of functions

option_below : (count : ℕ) (o : Option ℕ) → ((k : ℕ) → o ≡ Some k → k < count) → IfSome o (λ k. k < count)
option_below count None h = tt
option_below count (Some k) h = h k refl

number_within : (places : List (Option PlaceModel)) (p : Option PlaceModel) (k : ℕ) → number_at places p ≡ Some k → k < length places
number_within places None k e = cc
number_within places (Some p) k e = (let lt : k < 0 + length places = position_within (is_at p) places 0 k e in omega (arith, lt))

module _ {D : Type 0} (place : D → Option PlaceModel) where
  callees_below : (fs : List (FunctionOf D)) (ds : List D) → IsRowBelow (length fs) (map (number_of place fs) ds)
  callees_below fs [] = tt
  callees_below fs (d ∷ ds) = (
    option_below (length fs) (number_of place fs d) (λ k e. (let lt : k < length (places_of place fs) = number_within (places_of place fs) (place d) k e in omega (arith, lt, length-map fs (λ (f : FunctionOf D). place f.declaration)))),
    callees_below fs ds,
  )

  functions_below : (fs gs : List (FunctionOf D)) → AreRowsBelow (length fs) (map (λ f. f.callees) (map (linked_of (number_of place fs)) gs))
  functions_below fs [] = tt
  functions_below fs (g ∷ gs) = (callees_below fs g.references, functions_below fs gs)

-- the imports of packages

module _ {D : Type 0} where
  imports_below : (os : List (ObjectOf D)) (paths : List (List ℕ)) → IsRowBelow (length os) (map (package_number os) paths)
  imports_below os [] = tt
  imports_below os (path ∷ paths) = (option_below (length os) (package_number os path) (λ k e. by (spelled (map (λ o. o.path) os) path) refl k e), imports_below os paths)
    where
      by : (o : Option Spelling) → spelled (map (λ o. o.path) os) path ≡ o → (k : ℕ) → option_map (λ s. s.first) o ≡ Some k → k < length os
      by None is k e = cc
      by (Some s) is k e =
          let same : s.first ≡ k = cc in
          let lt : s.first < 0 + length (map (λ (o : ObjectOf D). o.path) os) = spelled_within (map (λ o. o.path) os) path 0 s is in
          omega (arith, same, lt, length-map os (λ (o : ObjectOf D). o.path))

  pub packages_many : (number : List ℕ → Option ℕ) (n : ℕ) (os : List (ObjectOf D)) → length (packages_from number n os) ≡ length os
  packages_many number n [] = refl
  packages_many number n (o ∷ os) = ap suc (packages_many number (n + length o.functions) os)

  rows_below : (all : List (ObjectOf D)) (n : ℕ) (os : List (ObjectOf D)) → AreRowsBelow (length all) (map (λ p. p.imports) (packages_from (package_number all) n os))
  rows_below all n [] = tt
  rows_below all n (o ∷ os) = (imports_below all o.imports, rows_below all (n + length o.functions) os)

  -- the functions of a name

  called_below : (name : List ℕ) (n : ℕ) (fs : List (FunctionOf D)) → AreBelow (n + length fs) (numbers_called name n fs)
  called_below name n [] = tt
  called_below name n (f ∷ fs) =
      let rest : AreBelow (n + 1 + length fs) (numbers_called name (n + 1) fs) = called_below name (n + 1) fs in
      let more : n + 1 + length fs ≤ n + suc (length fs) = omega arith in
      by (is_called name f) (below_more (n + 1 + length fs) (n + suc (length fs)) (numbers_called name (n + 1) fs) more rest)
    where
      by : (b : Bool) → AreBelow (n + suc (length fs)) (numbers_called name (n + 1) fs) → AreBelow (n + suc (length fs)) (number_if b n ++ numbers_called name (n + 1) fs)
      by true h = (omega arith, h)
      by false h = h

  all_called_below : (name : List ℕ) (number : List ℕ → Option ℕ) (names : PackageOf → List ℕ)
      → ((n : ℕ) (o : ObjectOf D) → names (package_of number n o) ≡ numbers_called name n o.functions)
      → (n : ℕ) (os : List (ObjectOf D)) → AreBelow (n + length (all_functions os)) (flat_map names (packages_from number n os))
  all_called_below name number names is n [] = tt
  all_called_below name number names is n (o ∷ os) =
      let parts : length (o.functions ++ all_functions os) ≡ length o.functions + length (all_functions os) = length-append o.functions (all_functions os) in
      let first : AreBelow (n + length o.functions) (numbers_called name n o.functions) = called_below name n o.functions in
      let here : AreBelow (n + length (all_functions (o ∷ os))) (names (package_of number n o)) = subst (λ ns. AreBelow (n + length (all_functions (o ∷ os))) ns) (sym (is n o))
      (below_more (n + length o.functions) (n + length (all_functions (o ∷ os))) (numbers_called name n o.functions) (omega (arith, parts)) first) in
      let rest : AreBelow (n + length o.functions + length (all_functions os)) (flat_map names (packages_from number (n + length o.functions) os)) = all_called_below name number names is (n + length o.functions) os in
      below_append (n + length (all_functions (o ∷ os))) (names (package_of number n o)) (flat_map names (packages_from number (n + length o.functions) os)) here
      (below_more (n + length o.functions + length (all_functions os)) (n + length (all_functions (o ∷ os))) (flat_map names (packages_from number (n + length o.functions) os)) (omega (arith, parts)) rest)

pub program_within : {D : Type 0} (place : D → Option PlaceModel) (os : List (ObjectOf D)) → AreWithin (layout_of (functions_of place os) (packages_of os))
program_within {D} place os =
    let fs = all_functions os in
    let many : length fs ≡ length (functions_of place os) = sym (length-map fs (linked_of (number_of place fs))) in
    let zero : 0 + length fs ≡ length fs = omega arith in
    let from_zero : (names : PackageOf → List ℕ) → AreBelow (0 + length fs) (flat_map names (packages_of os)) → AreBelow (length fs) (flat_map names (packages_of os)) =
    λ names h. subst (λ n. AreBelow n (flat_map names (packages_of os))) zero h in
    let packages : length os ≡ length (packages_of os) = sym (packages_many (package_number os) 0 os) in
    record {
      callees = subst (λ n. AreRowsBelow n (map (λ f. f.callees) (functions_of place os))) many (functions_below place fs fs);
      imports = subst (λ n. AreRowsBelow n (map (λ p. p.imports) (packages_of os))) packages (rows_below os 0 os);
      inits = subst (λ n. AreBelow n (flat_map (λ p. p.inits) (packages_of os))) many (from_zero (λ p. p.inits) (all_called_below (codes "init") (package_number os) (λ p. p.inits) (λ n o. refl) 0 os));
      mains = subst (λ n. AreBelow n (flat_map (λ p. p.mains) (packages_of os))) many (from_zero (λ p. p.mains) (all_called_below (codes "main") (package_number os) (λ p. p.mains) (λ n o. refl) 0 os));
    }

-- what begins a program

some_below : (count : ℕ) (names : PackageOf → List ℕ) (ps : List PackageOf) (k : ℕ) (p : PackageOf) → AreBelow count (flat_map names ps) → slice_get ps k ≡ Some p → AreBelow count (names p)
some_below count names [] k p h e = cc
some_below count names (q ∷ ps) zero p h e =
    let same : q ≡ p = cc in
    subst (λ (x : PackageOf). AreBelow count (names x)) same (below_left count (names q) (flat_map names ps) h)
some_below count names (q ∷ ps) (suc k) p h e = some_below count names ps k p (below_right count (names q) (flat_map names ps) h) e

inits_below : (count : ℕ) (ps : List PackageOf) (o : Option PackageOf) (k : ℕ) → AreBelow count (flat_map (λ p. p.inits) ps) → slice_get ps k ≡ o → AreBelow count (inits_in o)
inits_below count ps None k h e = tt
inits_below count ps (Some p) k h e = some_below count (λ q. q.inits) ps k p h e

pub starts_below : (count : ℕ) (ps : List PackageOf) (order : List ℕ) (marks : List Bool) (main : ℕ) → AreBelow count (flat_map (λ p. p.inits) ps) → main < count
    → AreBelow count (starts_of ps order marks main)
starts_below count ps order marks main h lt = below_append count (flat_map (λ n. inits_in (slice_get ps n)) (initialised ps order marks)) (main ∷ []) (by (initialised ps order marks)) (lt, tt)
  where
    by : (ns : List ℕ) → AreBelow count (flat_map (λ n. inits_in (slice_get ps n)) ns)
    by [] = tt
    by (n ∷ ns) = below_append count (inits_in (slice_get ps n)) (flat_map (λ n. inits_in (slice_get ps n)) ns) (inits_below count ps (slice_get ps n) n h refl) (by ns)

-- a program begins at a package and a function of it
pub record EntryWithin (count : ℕ) (ps : List PackageOf) (e : Entry) : Type 0 where
  pub root : e.root < length ps
  pub main : e.main < count

abbrev pub root_in : Option Entry → ℕ
root_in None = 0
root_in (Some x) = x.root

abbrev pub main_in : Option Entry → ℕ
main_in None = 0
main_in (Some x) = x.main

pub entry_within : (count : ℕ) (ps : List PackageOf) (number : Option ℕ) (e : Entry) → AreBelow count (flat_map (λ p. p.mains) ps) → entry_in ps number ≡ Some e → EntryWithin count ps e
entry_within count ps None e h is = cc
entry_within count ps (Some k) e h is = by (slice_get ps k) refl is
  where
    has : (p : PackageOf) (mains : List ℕ) → slice_get ps k ≡ Some p → p.mains ≡ mains → entry_at k mains ≡ Some e → EntryWithin count ps e
    has p [] there m is = cc
    has p (n ∷ ns) there m is =
        let low : AreBelow count (n ∷ ns) = subst (λ l. AreBelow count l) m (some_below count (λ q. q.mains) ps k p h there) in
        let root : k ≡ e.root = ap root_in is in
        let main : n ≡ e.main = ap main_in is in
        let lt : k < length ps = slice_get_within ps k p there in
        record { root = omega (arith, root, lt); main = omega (arith, main, low.0) }

    called : (p : PackageOf) (b : Bool) → slice_get ps k ≡ Some p → entry_if b k p.mains ≡ Some e → EntryWithin count ps e
    called p true there is = has p p.mains there refl is
    called p false there is = cc

    by : (o : Option PackageOf) → slice_get ps k ≡ o → entry_of k o ≡ Some e → EntryWithin count ps e
    by None there is = cc
    by (Some p) there is = called p p.is_main there is
