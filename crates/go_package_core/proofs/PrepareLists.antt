-- Lists that correspond, and their numbers.
use Rattle.std.proofs.Common.{◌≡◌, ℕ, zero, suc, ◌+◌, ◌<◌, ◌≤◌, List, [], ◌∷◌, ◌++◌, map, length, take, get_or, refl, sym, ap, subst, ◌∙◌, arith}
use Rattle.std.specs.Prelude.{Some, None, slice_get}
use Rattle.std.specs.List.{AllZip, AllByRecursion, enumerate_from}
use Rattle.std.proofs.lemmas.List.{length-map, length-take-le, map_more, take_all}
use Rattle.go_body_core.specs.typexpr_core.EntryNumbered.{enumerate_from-append}

pub map_map : {A B C : Type 0} (f : A → B) (g : B → C) (h : A → C) → ((x : A) → g (f x) ≡ h x) → (xs : List A) → map g (map f xs) ≡ map h xs
map_map f g h same [] = refl
map_map f g h same (x ∷ xs) =
    let rest = map_map f g h same xs in
    let first = same x in
    λ i. first i ∷ rest i

-- what stands at a place of a list that is seen in another way
pub mapped_at : {A B : Type 0} (f : A → B) (xs : List A) (n : ℕ) (y : B) → slice_get (map f xs) n ≡ Some y → (x : A) × (slice_get xs n ≡ Some x) × (f x ≡ y)
mapped_at f [] n y h = absurd (let no : None ≡ Some y = h in cc)
mapped_at f (x ∷ xs) zero y h = (x, refl, (let s : Some (f x) ≡ Some y = h in cc))
mapped_at f (x ∷ xs) (suc n) y h = mapped_at f xs n y h

pub holds_at : {A : Type 0} (P : A → Type 0) (xs : List A) (n : ℕ) (x : A) → AllByRecursion P xs → slice_get xs n ≡ Some x → P x
holds_at P [] n x all h = absurd (let no : None ≡ Some x = h in cc)
holds_at P (y ∷ xs) zero x all h = subst P (let s : Some y ≡ Some x = h in let e : y ≡ x = cc in e) all.0
holds_at P (y ∷ xs) (suc n) x all h = holds_at P xs n x all.1 h

-- the item at a place
pub read_at : {A : Type 0} (P : A → Type 0) (xs : List A) (n : ℕ) (x : A) → AllByRecursion P xs → n < length xs → x ≡ get_or xs n x → P x
read_at P [] n x all lt is = absurd (omega (arith, lt))
read_at P (y ∷ xs) zero x all lt is = subst P (sym is) all.0
read_at P (y ∷ xs) (suc n) x all lt is = read_at P xs n x all.1 (let less : n < length xs = omega (arith, lt) in less) is

-- one item more with its number
pub numbered_more : {A B : Type 0} (see : A → B) (xs : List A) (i : ℕ) (x : A) → i < length xs → x ≡ get_or xs i x → enumerate_from 0 (map see (take (i + 1) xs)) ≡ enumerate_from 0 (map see (take i xs)) ++ (i, see x) ∷ []
numbered_more see xs i x lt is =
    let front = map see (take i xs) in
    let many : 0 + length front ≡ i = (let a = length-map (take i xs) see in let b = length-take-le i xs (let le : i ≤ length xs = omega (arith, lt) in le) in omega (arith, a, b)) in
    ap (enumerate_from 0) (map_more see xs i x lt ∙ ap (λ y. front ++ see y ∷ []) (sym is))
    ∙ (enumerate_from-append 0 front (see x ∷ []) ∙ ap (λ (m : ℕ). enumerate_from 0 front ++ (m, see x) ∷ []) many)

-- lists that correspond

pub zip_both : {A B : Type 0} (R : A → B → Type 0) (xs us : List A) (ys vs : List B) → AllZip R xs ys → AllZip R us vs → AllZip R (xs ++ us) (ys ++ vs)
zip_both R [] us [] vs h k = k
zip_both R [] us (y ∷ ys) vs h k = absurd h
zip_both R (x ∷ xs) us [] vs h k = absurd h
zip_both R (x ∷ xs) us (y ∷ ys) vs h k = (h.0, zip_both R xs us ys vs h.1 k)

-- an item of a list that is seen in another way
pub seen_holds : {A B : Type 0} (P : B → Type 0) (see : A → B) (xs : List A) (i : ℕ) (x : A) → AllByRecursion P (map see xs) → i < length xs → x ≡ get_or xs i x → P (see x)
seen_holds P see [] i x all lt is = absurd (omega (arith, lt))
seen_holds P see (y ∷ xs) zero x all lt is = subst (λ z. P (see z)) (sym is) all.0
seen_holds P see (y ∷ xs) (suc i) x all lt is = seen_holds P see xs i x all.1 (let less : i < length xs = omega (arith, lt) in less) is

-- loops over numbered items

map_push : {A B : Type 0} (f : A → B) (xs : List A) (x : A) → map f (xs ++ x ∷ []) ≡ map f xs ++ f x ∷ []
map_push f [] x = refl
map_push f (y ∷ xs) x = ap (λ l. f y ∷ l) (map_push f xs x)

pub mapped_step : {A B C : Type 0} (see : A → B) (f : ℕ × B → C) (xs : List A) (i : ℕ) (x : A) (old new : List C) (y : C) → i < length xs → x ≡ get_or xs i x → new ≡ old ++ y ∷ [] → y ≡ f (i, see x)
    → old ≡ map f (enumerate_from 0 (map see (take i xs))) → new ≡ map f (enumerate_from 0 (map see (take (i + 1) xs)))
mapped_step see f xs i x old new y lt is added one before =
    added
    ∙ (ap (λ l. l ++ y ∷ []) before
    ∙ (ap (λ z. map f (enumerate_from 0 (map see (take i xs))) ++ z ∷ []) one
    ∙ (sym (map_push f (enumerate_from 0 (map see (take i xs))) (i, see x))
    ∙ ap (map f) (sym (numbered_more see xs i x lt is)))))

pub mapped_end : {A B C : Type 0} (see : A → B) (f : ℕ × B → C) (xs : List A) (i : ℕ) (now : List C) (ys : List B) → length xs ≤ i → map see xs ≡ ys → now ≡ map f (enumerate_from 0 (map see (take i xs))) → now ≡ map f (enumerate_from 0 ys)
mapped_end see f xs i now ys le same done = done ∙ (ap (λ l. map f (enumerate_from 0 (map see l))) (take_all i xs le) ∙ ap (λ l. map f (enumerate_from 0 l)) same)

pub zip_step : {A B C V : Type 0} (see : A → B) (R : ℕ × B → C → Type 0) (show : V → C) (xs : List A) (i : ℕ) (x : A) (old new : List V) (v : V) → i < length xs → x ≡ get_or xs i x → new ≡ old ++ v ∷ [] → R (i, see x) (show v)
    → AllZip R (enumerate_from 0 (map see (take i xs))) (map show old) → AllZip R (enumerate_from 0 (map see (take (i + 1) xs))) (map show new)
zip_step see R show xs i x old new v lt is added one before =
    subst (λ l. AllZip R l (map show new)) (sym (numbered_more see xs i x lt is))
    (subst (λ l. AllZip R (enumerate_from 0 (map see (take i xs)) ++ (i, see x) ∷ []) l) (sym (ap (map show) added ∙ map_push show old v))
    (zip_both R (enumerate_from 0 (map see (take i xs))) ((i, see x) ∷ []) (map show old) (show v ∷ []) before (one, tt)))

pub zip_end : {A B C : Type 0} (see : A → B) (R : ℕ × B → C → Type 0) (xs : List A) (i : ℕ) (now : List C) (ys : List B) → length xs ≤ i → map see xs ≡ ys → AllZip R (enumerate_from 0 (map see (take i xs))) now → AllZip R (enumerate_from 0 ys) now
zip_end see R xs i now ys le same done = subst (λ l. AllZip R (enumerate_from 0 l) now) (ap (map see) (take_all i xs le) ∙ same) done
