-- Parts that are put to the numbers of their packages, one after another.
use Rattle.std.proofs.Common.{◌≡◌, ◌≢◌, ℕ, zero, suc, ◌<◌, ◌⊎◌, inl, inr, List, [], ◌∷◌, ◌++◌, length, Option, Some, None, refl, sym, ap, subst, ◌∙◌, arith}
use Rattle.std.specs.Prelude.{slice_get, slice_set, replicate}
use Rattle.std.specs.List.Sorted.{IsPermutation}
use Rattle.std.proofs.lemmas.Bool.{cases_eq}
use Rattle.std.proofs.lemmas.List.{length-set, length-replicate}
use Rattle.std.proofs.lemmas.List.Sorted.{Contains-permutation, IsPermutation-sym}
use Rattle.std.proofs.lemmas.Option.{slice_get_within}
use Rattle.go_graph_core.specs.Imports.{IsNumbered}
use Rattle.go_graph_core.specs.Sources.{SourceModel}
use Rattle.go_graph_core.specs.Workspaces.{PackageModel, IsWorkspace}
use Rattle.go_graph_core.proofs.Zips.{numbered_back, numbered_length}
use Rattle.go_body_core.specs.typexpr_core.EntryAmong.{Among, among_cases, among_from, among_left, among_right, among_to}
use Rattle.go_emit_core.specs.package_core.PackagePartParts.{PartModel}
use Rattle.go_snap_core.specs.whole_workspace.Inputs.{AreParts, IsPartOf}
use Rattle.go_snap_core.proofs.WholeWorkspaceLists.{none_is_some, one_at, same_list}
use Rattle.go_snap_core.proofs.WholeWorkspaceBeside.{one_place}
use Rattle.go_snap_core.proofs.WholeWorkspaceMaking.{set_back, set_here, set_there}
use Rattle.go_snap_core.proofs.MakeTelling.{nothing_at}
use Rattle.go_emit_core.specs.package_core.PackagePartSlots.{somes}

-- those that are there

pub those_are : {A : Type 0} (xs : List (Option A)) → somes xs ≡ somes xs
those_are [] = refl
those_are (None ∷ xs) = those_are xs
those_are (Some x ∷ xs) = ap (λ l. x ∷ l) (those_are xs)

somes_to : (xs : List (Option PartModel)) (i : ℕ) (x : PartModel) → slice_get xs i ≡ Some (Some x) → Among (somes xs) x
somes_to [] i x h = absurd (none_is_some h)
somes_to (None ∷ xs) zero x h = absurd (let e : None ≡ Some x = (let f : Some None ≡ Some (Some x) = h in cc) in none_is_some e)
somes_to (None ∷ xs) (suc i) x h = somes_to xs i x h
somes_to (Some v ∷ xs) zero x h = inl (let f : Some (Some v) ≡ Some (Some x) = h in cc)
somes_to (Some v ∷ xs) (suc i) x h = inr (somes_to xs i x h)

somes_from : (xs : List (Option PartModel)) (x : PartModel) → Among (somes xs) x → (i : ℕ) × (slice_get xs i ≡ Some (Some x))
somes_from [] x h = absurd h
somes_from (None ∷ xs) x h = (let r = somes_from xs x h in (suc r.0, r.1))
somes_from (Some v ∷ xs) x h = elim h [
  | inl e ↦ (0, ap (λ y. Some (Some y)) e)
  | inr a ↦ (let r = somes_from xs x a in (suc r.0, r.1))
]

-- some of these parts are put to their numbers, and the others are left
pub record IsPut (parts slots : List (Option PartModel)) (left : List PartModel) : Type 0 where
  pub many : length slots ≡ length parts
  pub put : (i : ℕ) (x : PartModel) → slice_get slots i ≡ Some (Some x) → slice_get parts i ≡ Some (Some x)
  pub rest : (i : ℕ) (x : PartModel) → slice_get parts i ≡ Some (Some x) → Among left x ⊎ (slice_get slots i ≡ Some (Some x))
  pub own : (x : PartModel) → Among left x → (i : ℕ) × (slice_get parts i ≡ Some (Some x))

pub put_none : (ps : List PackageModel) (parts slots : List (Option PartModel)) (given : List PartModel) → AreParts ps parts → slots ≡ replicate (length ps) None → IsPermutation (somes parts) given → IsPut parts slots given
put_none ps parts slots given all is same = record {
  many = ap length is ∙ (length-replicate {A = Option PartModel} (length ps) None ∙ numbered_length (λ n p x. IsPartOf ps parts n p x) 0 ps parts all);
  put = λ i x h. absurd (nothing_at (length ps) slots i x is h);
  rest = λ i x h. inl (among_from given x (Contains-permutation (somes parts) given x same (among_to (somes parts) x (somes_to parts i x h))));
  own = λ x a. somes_from parts x (among_from (somes parts) x (Contains-permutation given (somes parts) x (IsPermutation-sym (somes parts) given same) (among_to given x a)));
}

module _ (ps : List PackageModel) (well : IsWorkspace ps) (parts : List (Option PartModel)) (all : AreParts ps parts) where
  place_is : (i : ℕ) (x : PartModel) → slice_get parts i ≡ Some (Some x) → slice_get ps i ≡ Some x.input.source
  place_is i x h = (let b = numbered_back (λ m q y. IsPartOf ps parts m q y) 0 ps parts i (Some x) all h in b.1 ∙ ap Some (sym b.2.1.source))

  -- a part that is left is of a package of the workspace
  pub left_there : (slots : List (Option PartModel)) (left : List PartModel) (x : PartModel) → IsPut parts slots (left ++ x ∷ []) → (i : ℕ) × (slice_get ps i ≡ Some x.input.source)
  left_there slots left x before = (let own = before.own x (among_right left (x ∷ []) x (inl refl)) in (own.0, place_is own.0 x own.1))

  module _ (n : ℕ) (files : List SourceModel) (x : PartModel) (numbered : IsNumbered ps x.input.source.0 n files) (slots : List (Option PartModel)) (left : List PartModel) (before : IsPut parts slots (left ++ x ∷ [])) where
    same_place : (i : ℕ) (y : PartModel) → slice_get parts i ≡ Some (Some y) → y.input.source.0 ≡ x.input.source.0 → i ≡ n
    same_place i y h same = one_place ps i n y.input.source (x.input.source.0, files) well (place_is i y h) numbered same

    here : slice_get parts n ≡ Some (Some x)
    here = (let own = before.own x (among_right left (x ∷ []) x (inl refl)) in subst (λ m. slice_get parts m ≡ Some (Some x)) (same_place own.0 x own.1 refl) own.1)

    below : n < length slots
    below = omega (arith, slice_get_within parts n (Some x) here, before.many)

    abbrev new : List (Option PartModel)
    new = slice_set slots n (Some x)

    put_at : (i : ℕ) (y : PartModel) → slice_get new i ≡ Some (Some y) → (i ≡ n) ⊎ (i ≢ n) → slice_get parts i ≡ Some (Some y)
    put_at i y h (inl e) = subst (λ m. slice_get parts m ≡ Some (Some y)) (sym e) (here ∙ ap Some (one_at new n (Some x) (Some y) (set_here slots n x below) (subst (λ m. slice_get new m ≡ Some (Some y)) e h)))
    put_at i y h (inr ne) = before.put i y (set_back slots n x below i ne (Some y) h)

    is_here : (i : ℕ) (y : PartModel) → i ≡ n → x ≡ y → slice_get new i ≡ Some (Some y)
    is_here i y e same = subst (λ m. slice_get new m ≡ Some (Some y)) (sym e) (set_here slots n x below ∙ ap (λ z. Some (Some z)) same)

    kept_at : (i : ℕ) (y : PartModel) → slice_get parts i ≡ Some (Some y) → slice_get slots i ≡ Some (Some y) → (i ≡ n) ⊎ (i ≢ n) → slice_get new i ≡ Some (Some y)
    kept_at i y h s (inl e) =
        let both : Some x ≡ Some y = one_at parts n (Some x) (Some y) here (subst (λ m. slice_get parts m ≡ Some (Some y)) e h) in
        is_here i y e (let f : Some x ≡ Some y = both in cc)
    kept_at i y h s (inr ne) = set_there slots n x below i ne (Some y) s

    one_rest : (i : ℕ) (y : PartModel) → slice_get parts i ≡ Some (Some y) → Among left y ⊎ Among (x ∷ []) y → Among left y ⊎ (slice_get new i ≡ Some (Some y))
    one_rest i y h (inl a) = inl a
    one_rest i y h (inr (inl e)) = inr (is_here i y (same_place i y h (ap (λ (z : PartModel). z.input.source.0) (sym e))) e)
    one_rest i y h (inr (inr none)) = absurd none

    rest_at : (i : ℕ) (y : PartModel) → slice_get parts i ≡ Some (Some y) → Among (left ++ x ∷ []) y ⊎ (slice_get slots i ≡ Some (Some y)) → Among left y ⊎ (slice_get new i ≡ Some (Some y))
    rest_at i y h (inl a) = one_rest i y h (among_cases left (x ∷ []) y a)
    rest_at i y h (inr s) = inr (kept_at i y h s (cases_eq i n))

    pub put_more : IsPut parts new left
    put_more = record {
      many = length-set slots n (Some x) ∙ before.many;
      put = λ i y h. put_at i y h (cases_eq i n);
      rest = λ i y h. rest_at i y h (before.rest i y h);
      own = λ y a. before.own y (among_left left (x ∷ []) y a);
    }

-- the last of those that are left is put to its number
pub put_next : (ps : List PackageModel) (parts slots next : List (Option PartModel)) (given left : List PartModel) (x : PartModel) → IsWorkspace ps → AreParts ps parts → given ≡ left ++ x ∷ [] → ((n : ℕ) (files : List SourceModel) → IsNumbered ps x.input.source.0 n files → next ≡ slice_set slots n (Some x)) → IsPut parts slots given → IsPut parts next left
put_next ps parts slots next given left x well all taken set before =
    let here : IsPut parts slots (left ++ x ∷ []) = subst (λ l. IsPut parts slots l) taken before in
    let there = left_there ps well parts all slots left x here in
    subst (λ l. IsPut parts l left) (sym (set there.0 x.input.source.1 there.1)) (put_more ps well parts all there.0 x.input.source.1 x there.1 slots left here)

-- all are put
pub all_put : (parts slots : List (Option PartModel)) → IsPut parts slots [] → parts ≡ slots
all_put parts slots h = same_list parts slots (sym h.many) (λ i x y p q. by i x y p q)
  where
    some_at : (i : ℕ) (a : PartModel) (y : Option PartModel) → slice_get slots i ≡ Some y → Among [] a ⊎ (slice_get slots i ≡ Some (Some a)) → Some a ≡ y
    some_at i a y q (inl none) = absurd none
    some_at i a y q (inr s) = one_at slots i (Some a) y s q

    by : (i : ℕ) (x y : Option PartModel) → slice_get parts i ≡ Some x → slice_get slots i ≡ Some y → x ≡ y
    by i (Some a) y p q = some_at i a y q (h.rest i a p)
    by i None None p q = refl
    by i None (Some b) p q = one_at parts i None (Some b) p (h.put i b q)
