-- The best of some names with one more.
use Rattle.std.proofs.Common.{◌≡◌, ◌+◌, add-one, ap, get_or, ◌≤◌, ◌<◌, ◌⊎◌, inl, inr, ◌++◌, ◌∷◌, [], List, ℕ, Bool, true, false, refl, sym, subst, ◌∙◌, length, map, take, arith}
use Rattle.std.specs.Prelude.{All, Contains, Option, Some, None, if◌then◌else◌, nat_le}
use Rattle.std.proofs.lemmas.Bool.{leb-false, leb-true}
use Rattle.std.proofs.Math.Seq.{take-suc}
use Rattle.std.proofs.lemmas.List.{map-append}
use Rattle.std.proofs.lemmas.List.Elements.{All-push, All-weaker, Contains-append_left, Contains-push}
use Rattle.go_diagnostic_core.specs.Near.{IsBest, IsDistance, IsNear, nearer}

-- a name has one distance
one_distance : (spelled name : List ℕ) (one other : ℕ) → IsDistance spelled name one → IsDistance spelled name other → one ≡ other
one_distance spelled name one other (inl a) (inl b) = a.1 ∙ sym b.1
one_distance spelled name one other (inl a) (inr b) = absurd (b.0 a.0)
one_distance spelled name one other (inr a) (inl b) = absurd (a.0 b.0)
one_distance spelled name one other (inr a) (inr b) = a.1 ∙ sym b.1

-- a name that is not near changes nothing
pub best_passed : (spelled : List ℕ) (names : List (List ℕ)) (best : Option (List ℕ × ℕ)) (name : List ℕ) → IsBest spelled names best → ((far : ℕ) → IsNear spelled name far → ⊥) → IsBest spelled (names ++ name ∷ []) best
best_passed spelled names None name b away = All-push (λ n. (far : ℕ) → IsNear spelled n far → ⊥) names name b away
best_passed spelled names (Some best) name b away =
    (Contains-append_left names (name ∷ []) best.0 b.0, b.1, All-push (λ n. (far : ℕ) → IsNear spelled n far → best.1 ≤ far) names name b.2 (λ far near. absurd (away far near)))

module _ (spelled : List ℕ) (names : List (List ℕ)) (name : List ℕ) (far : ℕ) (near : IsNear spelled name far) where
  own : (most : ℕ) → most ≤ far → (other : ℕ) → IsNear spelled name other → most ≤ other
  own most low other n = subst (λ d. most ≤ d) (one_distance spelled name far other near.away n.away) low

  first_found : IsBest spelled names None → IsBest spelled (names ++ name ∷ []) (Some (name, far))
  first_found b = (
    Contains-push names name,
    near,
    All-push (λ n. (d : ℕ) → IsNear spelled n d → far ≤ d) names name
        (All-weaker (λ n. (d : ℕ) → IsNear spelled n d → ⊥) (λ n. (d : ℕ) → IsNear spelled n d → far ≤ d) (λ n away d is. absurd (away d is)) names b)
        (own far (omega arith)),
  )

  kept : (best : List ℕ × ℕ) → IsBest spelled names (Some best) → best.1 ≤ far → IsBest spelled (names ++ name ∷ []) (Some best)
  kept best b low = (
    Contains-append_left names (name ∷ []) best.0 b.0,
    b.1,
    All-push (λ n. (d : ℕ) → IsNear spelled n d → best.1 ≤ d) names name b.2 (own best.1 low),
  )

  replaced : (best : List ℕ × ℕ) → IsBest spelled names (Some best) → far < best.1 → IsBest spelled (names ++ name ∷ []) (Some (name, far))
  replaced best b less = (
    Contains-push names name,
    near,
    All-push (λ n. (d : ℕ) → IsNear spelled n d → far ≤ d) names name
        (All-weaker (λ n. (d : ℕ) → IsNear spelled n d → best.1 ≤ d) (λ n. (d : ℕ) → IsNear spelled n d → far ≤ d) (λ n at d is. (let low = at d is in omega (arith, low, less))) names b.2)
        (own far (omega arith)),
  )

  by_test : (best : List ℕ × ℕ) (test : Bool) → IsBest spelled names (Some best) → nat_le best.1 far ≡ test → IsBest spelled (names ++ name ∷ []) (if test then Some best else Some (name, far))
  by_test best true b is = kept best b (leb-true best.1 far is)
  by_test best false b is = replaced best b (leb-false best.1 far is)

  -- one that is near takes the place of one that is farther
  pub best_found : (best : Option (List ℕ × ℕ)) → IsBest spelled names best → IsBest spelled (names ++ name ∷ []) (nearer best name far)
  best_found None b = first_found b
  best_found (Some best) b = by_test best (nat_le best.1 far) b refl

pub with_found : (spelled : List ℕ) (names : List (List ℕ)) (name : List ℕ) (far : ℕ) (best next : Option (List ℕ × ℕ)) → next ≡ nearer best name far → IsNear spelled name far → IsBest spelled names best → IsBest spelled (names ++ name ∷ []) next
with_found spelled names name far best next is near b = subst (IsBest spelled (names ++ name ∷ [])) (sym is) (best_found spelled names name far near best b)

-- what is shown of the items up to one, with this one more
pub shown_more : {A B : Type 0} (f : A → B) (xs : List A) (i : ℕ) (x : A) → i < length xs → x ≡ get_or xs i x → map f (take (i + 1) xs) ≡ map f (take i xs) ++ f x ∷ []
shown_more f xs i x lt is =
    ap (λ j. map f (take j xs)) (add-one i) ∙ ap (map f) (take-suc xs i x lt) ∙ map-append f (take i xs) (get_or xs i x ∷ []) ∙ ap (λ y. map f (take i xs) ++ f y ∷ []) (sym is)
