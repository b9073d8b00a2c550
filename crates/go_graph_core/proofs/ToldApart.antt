-- Lists of which the same is seen, item by item, are told apart by what is seen at a place.
use Rattle.std.proofs.Common.{◌≡◌, ◌<◌, ℕ, zero, suc, Bool, false, List, [], ◌∷◌, length, get_or, map, Some, slice_get, refl, sym, ◌∙◌, ap}
use Rattle.std.specs.Prelude.{◌↔◌, IsTrue}
use Rattle.std.proofs.lemmas.Option.{slice_get-get_or, get_or_from_slice_get}

head_seen : {A V : Type 0} (v : A → V) (x y : A) (xs ys : List A) → map v (x ∷ xs) ≡ map v (y ∷ ys) → v x ≡ v y
head_seen {A} {V} v x y xs ys e = ap (λ (l : List V). elim l [ [] ↦ v x | z ∷ zs ↦ z ]) e

tail_seen : {A V : Type 0} (v : A → V) (x y : A) (xs ys : List A) → map v (x ∷ xs) ≡ map v (y ∷ ys) → map v xs ≡ map v ys
tail_seen {A} {V} v x y xs ys e = ap (λ (l : List V). elim l [ [] ↦ map v xs | z ∷ zs ↦ zs ]) e

there : {A V : Type 0} (v : A → V) (xs ys : List A) (k : ℕ) (x : A) → map v xs ≡ map v ys → slice_get xs k ≡ Some x → (y : A) × (slice_get ys k ≡ Some y) × (v x ≡ v y)
there v [] ys k x e at = cc
there v (a ∷ xs) [] k x e at = cc
there v (a ∷ xs) (b ∷ ys) zero x e at = (let same : a ≡ x = cc in (b, refl, ap v (sym same) ∙ head_seen v a b xs ys e))
there v (a ∷ xs) (b ∷ ys) (suc k) x e at = there v xs ys k x (tail_seen v a b xs ys e) at

seen_at : {A V : Type 0} (v : A → V) (xs ys : List A) (i : ℕ) (x y : A) → i < length xs → i < length ys → x ≡ get_or xs i x → y ≡ get_or ys i y → map v xs ≡ map v ys → v x ≡ v y
seen_at {A} {V} v xs ys i x y lx ly ax ay e =
    let at : slice_get xs i ≡ Some x = slice_get-get_or xs i x lx ∙ ap Some (sym ax) in
    let other = there v xs ys i x e at in
    other.2 ∙ ap v (sym (get_or_from_slice_get ys i other.0 y other.1) ∙ sym ay)

-- lists are told apart by what is seen at a place
pub told_apart : {A V : Type 0} (v : A → V) (xs ys : List A) (i : ℕ) (x y : A) (b : Bool) → i < length xs → i < length ys → x ≡ get_or xs i x → y ≡ get_or ys i y → IsTrue b ↔ (v x ≡ v y) → b ≡ false → IsTrue false ↔ (map v xs ≡ map v ys)
told_apart v xs ys i x y b lx ly ax ay says other = ((λ h. cc), (λ e. sym other ∙ says.1 (seen_at v xs ys i x y lx ly ax ay e)))
