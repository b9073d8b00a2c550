-- How numbers are noted, and objects laid one behind another.
use Rattle.std.proofs.Common.{◌≡◌, ℕ, zero, suc, ◌+◌, ◌-◌, ◌<◌, ◌≤◌, Bool, true, false, ◌&&◌, cond, List, [], ◌∷◌, ◌++◌, length, map, drop, get_or, Option, Some, None, refl, sym, ap, ap₂, ◌∙◌, subst, arith, append_assoc, append-nil}
use Rattle.std.specs.Prelude.{codes, option_map, slice_get}
use Rattle.std.specs.Str.{bytes_eq}
use Rattle.std.specs.List.{position_from}
use Rattle.std.proofs.lemmas.Cmp.{nat_eq_equiv}
use Rattle.std.proofs.lemmas.Slice.Eq.{bytes_eq-Decides}
use Rattle.std.proofs.lemmas.List.{drop_more, drop_all, map-append, length-map, length-append}
use Rattle.go_collections_core.specs.declared.spelling_index.spellings.Spelling.{Spelling}
use Rattle.go_collections_core.specs.spelling_index.Spelled.{AreSpelled}
use Rattle.go_object_core.specs.Objects.{FunctionOf, ObjectOf}
use Rattle.go_machine_core.specs.Programs.{LinkedOf}
use Rattle.go_machine_core.specs.declared.link.places.Place.{Place}
use Rattle.go_machine_core.specs.link.Functions.{PlaceModel, all_functions, functions_of, is_at, linked_of, number_at, number_of, numbers_called, place_shown, places_of, same_place}
use Rattle.go_machine_core.specs.link.Packages.{PackageOf, package_number, package_of, packages_from, packages_of}
use Rattle.go_machine_core.specs.link.mirrors.Numbering.{AreNumbered, found_in, found_key, numbered_path}

-- one more is noted, from the back
pub noted : {P Q : Type 0} (test : Q → Bool) (h : P → Q) (places : List P) (at n : ℕ) (d : P) (new old : Option ℕ) → at < length places → n ≡ at + 1
    → new ≡ cond (test (h (get_or places at d))) (Some at) old → old ≡ position_from test n (map h (drop n places)) → new ≡ position_from test at (map h (drop at places))
noted test h places at n d new old lt is now before =
    let before' : old ≡ position_from test (at + 1) (map h (drop (at + 1) places)) = subst (λ k. old ≡ position_from test k (map h (drop k places))) is before in
    now ∙ (ap (λ r. cond (test (h (get_or places at d))) (Some at) r) before' ∙ sym (ap (λ l. position_from test at (map h l)) (drop_more places at d lt)))

abbrev pub key_of : PlaceModel → Place
key_of p = record { path = record { ref_ptr = (0, 0); now = p.path }; file = p.file; number = p.number }

bytes_back : (x y : List ℕ) → bytes_eq x y ≡ bytes_eq y x
bytes_back x y = grind (arith, bytes_eq-Decides x y, bytes_eq-Decides y x)

-- two places are the same in either order
pub place_back : (p q : PlaceModel) → same_place p q ≡ same_place q p
place_back p q = ap₂ ◌&&◌ (bytes_back p.path q.path) (ap₂ ◌&&◌ (nat_eq_equiv.symm p.file q.file) (nat_eq_equiv.symm p.number q.number))

-- all are noted
pub all_noted : (es : List (Place × ℕ)) (places : List (Option PlaceModel)) → ((k : Place) → found_key k es ≡ position_from (is_at (place_shown k)) 0 places) → AreNumbered es places
all_noted es places h None = refl
all_noted es places h (Some p) = h (key_of p)

pub map_same : {A B : Type 0} (f g : A → B) → ((a : A) → f a ≡ g a) → (xs : List A) → map f xs ≡ map g xs
map_same f g h [] = refl
map_same f g h (x ∷ xs) = ap₂ ◌∷◌ (h x) (map_same f g h xs)

-- objects one behind another
module _ {D X : Type 0} (shown : X → ObjectOf D) where
  pub places_more : (place : D → Option PlaceModel) (all old new : List (Option PlaceModel)) (xs : List X) (i : ℕ) (d : X) → i < length xs
      → new ≡ old ++ map (λ f. place f.declaration) (shown (get_or xs i d)).functions
      → all ≡ old ++ places_of place (all_functions (map shown (drop i xs))) → all ≡ new ++ places_of place (all_functions (map shown (drop (i + 1) xs)))
  places_more place all old new xs i d lt is h =
      let fs = (shown (get_or xs i d)).functions in
      let rest = all_functions (map shown (drop (i + 1) xs)) in
      h ∙ (ap (λ l. old ++ places_of place (all_functions (map shown l))) (drop_more xs i d lt)
      ∙ (ap (λ l. old ++ l) (map-append (λ (f : FunctionOf D). place f.declaration) fs rest)
      ∙ (sym (append_assoc old (places_of place fs) (places_of place rest)) ∙ ap (λ l. l ++ places_of place rest) (sym is))))

  pub functions_more : (number : D → Option ℕ) (all old new : List LinkedOf) (xs : List X) (i : ℕ) (d : X) → i < length xs → new ≡ old ++ map (linked_of number) (shown (get_or xs i d)).functions
      → all ≡ old ++ map (linked_of number) (all_functions (map shown (drop i xs))) → all ≡ new ++ map (linked_of number) (all_functions (map shown (drop (i + 1) xs)))
  functions_more number all old new xs i d lt is h =
      let fs = (shown (get_or xs i d)).functions in
      let rest = all_functions (map shown (drop (i + 1) xs)) in
      h ∙ (ap (λ l. old ++ map (linked_of number) (all_functions (map shown l))) (drop_more xs i d lt)
      ∙ (ap (λ l. old ++ l) (map-append (linked_of number) fs rest)
      ∙ (sym (append_assoc old (map (linked_of number) fs) (map (linked_of number) rest)) ∙ ap (λ l. l ++ map (linked_of number) rest) (sym is))))

  pub packages_more : (number : List ℕ → Option ℕ) (all old new : List PackageOf) (n m : ℕ) (xs : List X) (i : ℕ) (d : X) → i < length xs → new ≡ old ++ package_of number n (shown (get_or xs i d)) ∷ []
      → m ≡ n + length (shown (get_or xs i d)).functions
      → all ≡ old ++ packages_from number n (map shown (drop i xs)) → all ≡ new ++ packages_from number m (map shown (drop (i + 1) xs))
  packages_more number all old new n m xs i d lt is many h =
      let o = shown (get_or xs i d) in
      let rest = packages_from number m (map shown (drop (i + 1) xs)) in
      h ∙ (ap (λ l. old ++ packages_from number n (map shown l)) (drop_more xs i d lt)
      ∙ (ap (λ k. old ++ (package_of number n o ∷ packages_from number k (map shown (drop (i + 1) xs)))) (sym many)
      ∙ (sym (append_assoc old (package_of number n o ∷ []) rest) ∙ ap (λ l. l ++ rest) (sym is))))

-- how many functions there are with those of one more object
pub functions_many : {D : Type 0} (number : D → Option ℕ) (old new : List LinkedOf) (fs : List (FunctionOf D)) → new ≡ old ++ map (linked_of number) fs → length new ≡ length old + length fs
functions_many number old new fs is =
    let e = ap length is in
    let both = length-append old (map (linked_of number) fs) in
    omega (arith, e, both, length-map fs (linked_of number))

-- look-ups that are those of the program
pub linked_same : {D : Type 0} (number other : D → Option ℕ) → ((d : D) → number d ≡ other d) → (fs : List (FunctionOf D)) → map (linked_of number) fs ≡ map (linked_of other) fs
linked_same number other h fs = map_same (linked_of number) (linked_of other) (λ f. ap (λ cs. record { slots = f.slots; callees = cs; code = f.code }) (map_same number other h f.references)) fs

abbrev pub with_imports : {D : Type 0} → ℕ → ObjectOf D → List (Option ℕ) → PackageOf
with_imports n o is = record {
  is_main = bytes_eq o.name (codes "main");
  imports = is;
  inits = numbers_called (codes "init") n o.functions;
  mains = numbers_called (codes "main") n o.functions;
}

pub packages_same : {D : Type 0} (number other : List ℕ → Option ℕ) → ((p : List ℕ) → number p ≡ other p) → (n : ℕ) (os : List (ObjectOf D)) → packages_from number n os ≡ packages_from other n os
packages_same number other h n [] = refl
packages_same number other h n (o ∷ os) =
    ap₂ ◌∷◌ (ap (with_imports n o) (map_same number other h o.imports)) (packages_same number other h (n + length o.functions) os)

pub path_numbers : {D : Type 0} (os : List (ObjectOf D)) (ps : List (List ℕ × Spelling)) → AreSpelled ps (map (λ o. o.path) os) → (p : List ℕ) → numbered_path ps p ≡ package_number os p
path_numbers os ps h p = ap (option_map (λ s. s.first)) (h p)

pub numbers_same : {D : Type 0} (place : D → Option PlaceModel) (fs : List (FunctionOf D)) (es : List (Place × ℕ)) (models : List (Option PlaceModel)) → AreNumbered es models → models ≡ places_of place fs
    → (d : D) → found_in es (place d) ≡ number_of place fs d
numbers_same place fs es models h is d = h (place d) ∙ ap (λ ms. number_at ms (place d)) is

-- what stands at a number of two lists, one behind the other
slice_left : {A : Type 0} (xs ys : List A) (n : ℕ) → n < length xs → slice_get (xs ++ ys) n ≡ slice_get xs n
slice_left [] ys n lt = absurd (omega (arith, lt))
slice_left (x ∷ xs) ys zero lt = refl
slice_left (x ∷ xs) ys (suc n) lt = slice_left xs ys n (omega (arith, lt))

slice_right : {A : Type 0} (xs ys : List A) (n : ℕ) → length xs ≤ n → slice_get (xs ++ ys) n ≡ slice_get ys (n - length xs)
slice_right [] ys n le = ap (λ k. slice_get ys k) (omega arith)
slice_right (x ∷ xs) ys zero le = absurd (omega (arith, le))
slice_right (x ∷ xs) ys (suc n) le =
    let same : n - length xs ≡ suc n - length (x ∷ xs) = omega arith in
    slice_right xs ys n (omega (arith, le)) ∙ ap (λ k. slice_get ys k) same

-- the function of a number, object by object
module _ {D X : Type 0} (shown : X → ObjectOf D) (xs : List X) (i : ℕ) (d : X) (lt : i < length xs) (rest : ℕ) (o : Option (FunctionOf D)) (h : o ≡ slice_get (all_functions (map shown (drop i xs))) rest) where
  there_now : o ≡ slice_get ((shown (get_or xs i d)).functions ++ all_functions (map shown (drop (i + 1) xs))) rest
  there_now = h ∙ ap (λ (l : List X). slice_get (all_functions (map shown l)) rest) (drop_more xs i d lt)

  pub function_here : (f : Option (FunctionOf D)) → rest < length (shown (get_or xs i d)).functions → f ≡ slice_get (shown (get_or xs i d)).functions rest → f ≡ o
  function_here f few is = is ∙ sym (there_now ∙ slice_left (shown (get_or xs i d)).functions (all_functions (map shown (drop (i + 1) xs))) rest few)

  pub function_behind : (count : ℕ) → count ≡ length (shown (get_or xs i d)).functions → count ≤ rest → o ≡ slice_get (all_functions (map shown (drop (i + 1) xs))) (rest - count)
  function_behind count many le =
      there_now ∙ slice_right (shown (get_or xs i d)).functions (all_functions (map shown (drop (i + 1) xs))) rest (omega (arith, many, le))
      ∙ ap (λ k. slice_get (all_functions (map shown (drop (i + 1) xs))) (rest - k)) (sym many)
