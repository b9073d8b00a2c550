-- One more package of a workspace is looked at.
use Rattle.std.proofs.Common.{◌≡◌, ℕ, zero, suc, ◌+◌, ◌-◌, ◌<◌, ◌≤◌, Bool, true, false, cond, List, [], ◌∷◌, ◌++◌, length, take, get_or, Some, None, refl, sym, ap, ◌∙◌, subst, append-nil, arith}
use Rattle.std.specs.Prelude.{slice_get}
use Rattle.std.specs.List.{AllWithin}
use Rattle.std.specs.List.Sorted.{IsStrictlySortedBy}
use Rattle.std.specs.Map.{keys_of}
use Rattle.std.specs.Ordering.{is_lt}
use Rattle.std.proofs.lemmas.List.{take_more}
use Rattle.std.proofs.lemmas.List.Elements.{filter-append}
use Rattle.std.proofs.lemmas.Option.{get_or_from_slice_get, slice_get_within}
use Rattle.go_graph_core.specs.Workspaces.{PackageModel, by_bytes, is_path_inside, packages_inside}
use Rattle.go_import_core.proofs.HeadSpanning.{outside_before, parted, span_has}

inside_more : (own : List ℕ) (all : List PackageModel) (i : ℕ) (x : PackageModel) → slice_get all i ≡ Some x → packages_inside own (take (i + 1) all) ≡ packages_inside own (take i all) ++ cond (is_path_inside own x.0) (x ∷ []) []
inside_more own all i x at =
    ap (packages_inside own) (take_more all i x (slice_get_within all i x at))
    ∙ filter-append (λ p. is_path_inside own p.0) (take i all) (get_or all i x ∷ [])
    ∙ ap (λ (y : PackageModel). packages_inside own (take i all) ++ cond (is_path_inside own y.0) (y ∷ []) []) (get_or_from_slice_get all i x x at)

pub inside_here : (own : List ℕ) (all ps : List PackageModel) (i k : ℕ) (x : PackageModel) → slice_get all i ≡ Some x → k < length ps → x ≡ get_or ps k x → is_path_inside own x.0 ≡ true → packages_inside own (take i all) ≡ take k ps → packages_inside own (take (i + 1) all) ≡ take (k + 1) ps
inside_here own all ps i k x at there same is before =
    inside_more own all i x at
    ∙ ap (λ b. packages_inside own (take i all) ++ cond b (x ∷ []) []) is
    ∙ ap (λ l. l ++ x ∷ []) before
    ∙ ap (λ (y : PackageModel). take k ps ++ y ∷ []) same
    ∙ sym (take_more ps k x there)

pub inside_past : (own : List ℕ) (all ps : List PackageModel) (i k : ℕ) (x : PackageModel) → slice_get all i ≡ Some x → is_path_inside own x.0 ≡ false → packages_inside own (take i all) ≡ take k ps → packages_inside own (take (i + 1) all) ≡ take k ps
inside_past own all ps i k x at is before =
    inside_more own all i x at
    ∙ ap (λ b. packages_inside own (take i all) ++ cond b (x ∷ []) []) is
    ∙ append-nil (packages_inside own (take i all))
    ∙ before

-- packages before a text, and behind it

abbrev pub AreBefore : List PackageModel → List ℕ → ℕ → Type 0
AreBefore ps t low = AllWithin (λ (p : PackageModel). is_lt (by_bytes p.0 t) ≡ true) ps 0 low

abbrev pub AreBehind : List PackageModel → List ℕ → ℕ → Type 0
AreBehind ps t high = AllWithin (λ (p : PackageModel). is_lt (by_bytes p.0 t) ≡ false) ps high (length ps)

-- none lies inside a module before its text, and none behind the text that ends it
pub none_before : (own : List ℕ) (ps : List PackageModel) (i : ℕ) → AreBefore ps own i → packages_inside own (take i ps) ≡ []
none_before own ps zero before = refl
none_before own [] (suc i) before = refl
none_before own (p ∷ ps) (suc i) before =
    ap (λ b. cond b (p ∷ packages_inside own (take i ps)) (packages_inside own (take i ps))) (outside_before own p.0 (before 0 p (omega arith) (omega arith)))
    ∙ none_before own ps i (λ k d low high. before (suc k) d (omega arith) (omega (arith, high)))

pub all_up_to : (own : List ℕ) (ps : List PackageModel) (i k : ℕ) → AreBehind ps (own ++ 48 ∷ []) i → i ≤ k → packages_inside own (take k ps) ≡ packages_inside own ps
all_up_to own ps i k behind le =
    let whole : k ≡ k - 0 = omega arith in
    ap (λ n. packages_inside own (take n ps)) whole
    ∙ span_has own ps 0 k (omega arith) (λ n d low high. absurd (omega (arith, high))) (λ n d low high. behind n d (omega (arith, low, le)) high)

-- a half is left
pub low_half : (ps : List PackageModel) (t : List ℕ) (m : ℕ) (x : PackageModel) → IsStrictlySortedBy by_bytes (keys_of ps) → slice_get ps m ≡ Some x → is_lt (by_bytes x.0 t) ≡ true → AreBefore ps t (m + 1)
low_half ps t m x ordered at is k d low high =
    parted ps t ordered k m d (omega (arith, high)) (slice_get_within ps m x at) (subst (λ (y : PackageModel). is_lt (by_bytes y.0 t) ≡ true) (sym (get_or_from_slice_get ps m x d at)) is)

pub high_half : (ps : List PackageModel) (t : List ℕ) (m : ℕ) (x : PackageModel) → IsStrictlySortedBy by_bytes (keys_of ps) → slice_get ps m ≡ Some x → is_lt (by_bytes x.0 t) ≡ false → AreBehind ps t m
high_half ps t m x ordered at is k d low high = by (is_lt (by_bytes (get_or ps k d).0 t)) refl
  where
    by : (b : Bool) → is_lt (by_bytes (get_or ps k d).0 t) ≡ b → is_lt (by_bytes (get_or ps k d).0 t) ≡ false
    by false e = e
    by true e =
        let first = parted ps t ordered m k d (omega (arith, low)) high e in
        let other : is_lt (by_bytes (get_or ps m d).0 t) ≡ false = subst (λ (y : PackageModel). is_lt (by_bytes y.0 t) ≡ false) (sym (get_or_from_slice_get ps m x d at)) is in
        absurd (let both : true ≡ false = sym first ∙ other in cc)
