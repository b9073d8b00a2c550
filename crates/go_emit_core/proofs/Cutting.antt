-- How many items of a list stand before a place, counted on from where it is known of an earlier place.
use Rattle.std.proofs.Common.{◌≡◌, ℕ, suc, ◌+◌, ◌≤◌, Bool, true, false, cond, List, [], ◌∷◌, drop, nat_lt, refl, sym, ap, ◌∙◌, arith}
use Rattle.std.specs.List.{prefix_len}
use Rattle.std.proofs.lemmas.Bool.{ltb-true, lt-ltb}

-- where the one test holds the other does too: how far the other holds is counted on from where the one ends
module _ {X : Type 0} (p q : X → Bool) (later : (x : X) → p x ≡ true → q x ≡ true) where
  pub counted_on : (xs : List X) → prefix_len p xs + prefix_len q (drop (prefix_len p xs) xs) ≡ prefix_len q xs
  counted_on [] = refl
  counted_on (x ∷ xs) = by (p x) refl (counted_on xs)
    where
      by : (b : Bool) → p x ≡ b → prefix_len p xs + prefix_len q (drop (prefix_len p xs) xs) ≡ prefix_len q xs
          → cond b (1 + prefix_len p xs) 0 + prefix_len q (drop (cond b (1 + prefix_len p xs) 0) (x ∷ xs)) ≡ cond (q x) (1 + prefix_len q xs) 0
      by true e ih =
          let n = prefix_len p xs in
          let one : 1 + n ≡ suc n = omega arith in
          let more : (1 + n) + prefix_len q (drop n xs) ≡ 1 + prefix_len q xs = omega (arith, ih) in
          ap (λ (m : ℕ). (1 + n) + prefix_len q (drop m (x ∷ xs))) one ∙ (more ∙ sym (ap (λ (b : Bool). cond b (1 + prefix_len q xs) 0) (later x e)))
      by false e ih = omega arith

pub sooner : (x a b : ℕ) → a ≤ b → nat_lt x a ≡ true → nat_lt x b ≡ true
sooner x a b le h = let lt = ltb-true x a h in lt-ltb x b (omega (arith, lt, le))
