-- What a list gives item by item, one of each.
use Rattle.std.proofs.Common.{◌≡◌, ℕ, zero, suc, ◌+◌, ◌++◌, List, [], ◌∷◌, take, drop, All, Option, Some, slice_get, sym, ap, ◌∙◌, arith}
use Rattle.std.specs.List.{flat_map}

module _ {X Y : Type 0} (f : X → List Y) (one : X → Option Y) where
  -- this item gives one
  pub record GivesOne (x : X) : Type 0 where
    pub given : Y
    pub is : f x ≡ given ∷ []
    pub one_of : one x ≡ Some given

  pub given_at : (xs : List X) → All GivesOne xs → (k : ℕ) (x : X) → slice_get xs k ≡ Some x → slice_get (flat_map f xs) k ≡ one x
  given_at [] h k x e = cc
  given_at (y ∷ ys) h zero x e =
      let g = h 0 y (omega arith) in
      let same : y ≡ x = cc in
      ap (λ (l : List Y). slice_get (l ++ flat_map f ys) 0) g.is ∙ (sym g.one_of ∙ ap one same)
  given_at (y ∷ ys) h (suc k) x e =
      let g = h 0 y (omega arith) in
      ap (λ (l : List Y). slice_get (l ++ flat_map f ys) (suc k)) g.is ∙ given_at ys (λ j d lt. h (suc j) d (omega (arith, lt))) k x e

-- an item of a piece of a list is one of the list
pub in_drop : {X : Type 0} (n : ℕ) (xs : List X) (k : ℕ) (x : X) → slice_get (drop n xs) k ≡ Some x → slice_get xs (n + k) ≡ Some x
in_drop zero xs k x e = (let sum : 0 + k ≡ k = omega arith in ap (slice_get xs) sum ∙ e)
in_drop (suc n) [] k x e = cc
in_drop (suc n) (y ∷ ys) k x e = (let sum : suc n + k ≡ suc (n + k) = omega arith in ap (slice_get (y ∷ ys)) sum ∙ in_drop n ys k x e)

pub in_take : {X : Type 0} (n : ℕ) (xs : List X) (k : ℕ) (x : X) → slice_get (take n xs) k ≡ Some x → slice_get xs k ≡ Some x
in_take zero xs k x e = cc
in_take (suc n) [] k x e = cc
in_take (suc n) (y ∷ ys) zero x e = e
in_take (suc n) (y ∷ ys) (suc k) x e = in_take n ys k x e
