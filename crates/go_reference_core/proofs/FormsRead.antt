-- What lists of texts have at a number.
use Rattle.std.proofs.Common.{◌≡◌, ◌++◌, ◌+◌, ◌<◌, ◌∙◌, ℕ, List, [], ◌∷◌, length, get_or, map, take, Some, All, sym, ap, subst, arith, length-take}
use Rattle.std.specs.Option.{option_map}
use Rattle.std.specs.Prelude.{Contains, slice_get}
use Rattle.std.specs.List.Sorted.{IsStrictlySortedBy}
use Rattle.std.specs.declared.cmp.Ordering.TheVariants.{Less}
use Rattle.std.proofs.lemmas.List.{get_or-take, take_more}
use Rattle.std.proofs.lemmas.Map.Keys.{Less-from_sorted}
use Rattle.std.proofs.lemmas.Option.{get_or_from_slice_get, slice_get-get_or, slice_get-map, slice_get_within}
use Rattle.go_graph_core.specs.Workspaces.{by_bytes}

pub read_at : {A : Type 0} (xs : List A) (i : ℕ) (x : A) → i < length xs → x ≡ get_or xs i x → slice_get xs i ≡ Some x
read_at xs i x lt is = slice_get-get_or xs i x lt ∙ ap Some (sym is)

pub mapped_at : {A B : Type 0} (f : A → B) (xs : List A) (i : ℕ) (x : A) → slice_get xs i ≡ Some x → slice_get (map f xs) i ≡ Some (f x)
mapped_at f xs i x at = slice_get-map f xs i ∙ ap (option_map f) at

pub all_at : {A : Type 0} (P : A → Type 0) (xs : List A) (i : ℕ) (x : A) → slice_get xs i ≡ Some x → All P xs → P x
all_at P xs i x at all = subst P (get_or_from_slice_get xs i x x at) (all i x (slice_get_within xs i x at))

pub contained : (xs : List (List ℕ)) (k : ℕ) (x : List ℕ) → slice_get xs k ≡ Some x → Contains xs x
contained xs k x at = (k, slice_get_within xs k x at, get_or_from_slice_get xs k x x at)

pub taken : (xs : List (List ℕ)) (i : ℕ) (x : List ℕ) → slice_get xs i ≡ Some x → take (i + 1) xs ≡ take i xs ++ x ∷ []
taken xs i x at = take_more xs i x (slice_get_within xs i x at) ∙ ap (λ (y : List ℕ). take i xs ++ y ∷ []) (get_or_from_slice_get xs i x x at)

-- what stands in front of a number is less
pub less_before : (xs : List (List ℕ)) (i : ℕ) (x : List ℕ) → IsStrictlySortedBy by_bytes xs → slice_get xs i ≡ Some x → (n : List ℕ) → Contains (take i xs) n → by_bytes n x ≡ Less
less_before xs i x ordered at n c =
    let short = c.1 in
    let high : i < length xs = slice_get_within xs i x at in
    let low : c.0 < i = omega (arith, short, length-take i xs, high) in
    let here : get_or xs c.0 n ≡ n = sym (get_or-take i xs c.0 n low) ∙ c.2 in
    let there : get_or xs i n ≡ x = get_or_from_slice_get xs i x n at in
    let less : by_bytes (get_or xs c.0 n) (get_or xs i n) ≡ Less = Less-from_sorted by_bytes xs c.0 i n ordered low high in
    sym (ap (λ (y : List ℕ). by_bytes y x) here) ∙ (sym (ap (by_bytes (get_or xs c.0 n)) there) ∙ less)
