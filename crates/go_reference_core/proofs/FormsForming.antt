-- The names of one form after another.
use Rattle.std.proofs.Common.{◌≡◌, ◌++◌, ◌+◌, ◌<◌, ◌⊎◌, ◌∙◌, inl, inr, ℕ, List, [], ◌∷◌, length, get_or, map, take, All, Result, Ok, Err, sym, ap, subst}
use Rattle.std.specs.Prelude.{IfOk}
use Rattle.std.specs.List.{AllZip}
use Rattle.std.specs.List.Sorted.{IsStrictlySortedBy}
use Rattle.std.proofs.lemmas.List.{map-append, take_more}
use Rattle.go_typexpr_core.proofs.EntryAmong.{Among, among_cases}
use Rattle.go_graph_core.specs.Workspaces.{by_bytes}
use Rattle.go_query_core.specs.snap_core.WholeWorkspaceLists.{all_from_among, among_all}

pub both_ok : {T E : Type 0} (r : Result T E) (P Q R : T → Type 0) → ((x : T) → P x → Q x → R x) → IfOk r P → IfOk r Q → IfOk r R
both_ok (Ok x) P Q R f p q = f x p q
both_ok (Err e) P Q R f p q = tt

pub none_rise : IsStrictlySortedBy by_bytes []
unfolding IsStrictlySortedBy
none_rise = tt

pub mapped_more : {A B : Type 0} (f : A → B) (xs : List A) (i : ℕ) (x : A) → i < length xs → x ≡ get_or xs i x → map f (take (i + 1) xs) ≡ map f (take i xs) ++ f x ∷ []
mapped_more f xs i x lt is = ap (map f) (take_more xs i x lt ∙ ap (λ y. take i xs ++ y ∷ []) (sym is)) ∙ map-append f (take i xs) (x ∷ [])

zip_push : {A B : Type 0} (R : A → B → Type 0) (xs : List A) (ys : List B) (x : A) (y : B) → AllZip R xs ys → R x y → AllZip R (xs ++ x ∷ []) (ys ++ y ∷ [])
zip_push R [] [] x y h r = (r, tt)
zip_push R [] (b ∷ ys) x y h r = absurd h
zip_push R (a ∷ xs) [] x y h r = absurd h
zip_push R (a ∷ xs) (b ∷ ys) x y h r = (h.0, zip_push R xs ys x y h.1 r)

-- one form more
pub zip_more : {A B : Type 0} (R : A → B → Type 0) (xs more : List A) (ys new : List B) (x : A) (y : B) → more ≡ xs ++ x ∷ [] → new ≡ ys ++ y ∷ [] → AllZip R xs ys → R x y → AllZip R more new
zip_more R xs more ys new x y e g h r = subst (λ l. AllZip R l new) (sym e) (subst (λ l. AllZip R (xs ++ x ∷ []) l) (sym g) (zip_push R xs ys x y h r))

pub zip_all : {A B : Type 0} (R : A → B → Type 0) (xs all : List A) (ys : List B) → xs ≡ all → AllZip R xs ys → AllZip R all ys
zip_all R xs all ys e h = subst (λ l. AllZip R l ys) e h

pub rise_more : (all new : List (List (List ℕ))) (names : List (List ℕ)) → new ≡ all ++ names ∷ [] → All (IsStrictlySortedBy by_bytes) all → IsStrictlySortedBy by_bytes names → All (IsStrictlySortedBy by_bytes) new
rise_more all new names e h r = subst (All (IsStrictlySortedBy by_bytes)) (sym e) (all_from_among (IsStrictlySortedBy by_bytes) (all ++ names ∷ []) (λ ns at. by ns (among_cases all (names ∷ []) ns at)))
  where
    by : (ns : List (List ℕ)) → Among all ns ⊎ Among (names ∷ []) ns → IsStrictlySortedBy by_bytes ns
    by ns (inl a) = among_all (IsStrictlySortedBy by_bytes) all ns h a
    by ns (inr (inl same)) = subst (IsStrictlySortedBy by_bytes) same r
    by ns (inr (inr none)) = absurd none
