-- Places in pieces that stand one behind another.
use Rattle.std.proofs.Common.{◌≡◌, ℕ, zero, suc, ◌+◌, ◌*◌, ◌<◌, List, [], ◌∷◌, ◌++◌, length, get_or, All, refl, ap, ◌∙◌, arith, append_assoc}
use Rattle.std.specs.Prelude.{slice_get}
use Rattle.std.specs.List.{flat_map}
use Rattle.std.proofs.lemmas.List.{length-append}
use Rattle.std.proofs.lemmas.List.Elements.{All-head, All-tail}

module _ {A : Type 0} where
  at_left : (xs ys : List A) (i : ℕ) → i < length xs → slice_get (xs ++ ys) i ≡ slice_get xs i
  at_left [] ys i lt = absurd (omega arith)
  at_left (x ∷ xs) ys zero lt = refl
  at_left (x ∷ xs) ys (suc i) lt = at_left xs ys i (omega arith)

  at_right : (xs ys : List A) (i n : ℕ) → n ≡ length xs + i → slice_get (xs ++ ys) n ≡ slice_get ys i
  at_right [] ys i n e = (let is : n ≡ i = omega (arith, e) in ap (slice_get ys) is)
  at_right (x ∷ xs) ys i zero e = absurd (omega (arith, e))
  at_right (x ∷ xs) ys i (suc n) e = at_right xs ys i n (omega (arith, e))

  abbrev Full : List A → Type 0
  Full piece = length piece ≡ 64

  -- how many there are in pieces of 64 and behind them
  pub many_in : (full : List (List A)) (last : List A) → All (λ (piece : List A). length piece ≡ 64) full → length (flat_map (λ (piece : List A). piece) full ++ last) ≡ 64 * length full + length last
  many_in [] last are = omega arith
  many_in (p ∷ ps) last are =
      let rest : List A = flat_map (λ (piece : List A). piece) ps in
      let joined : (p ++ rest) ++ last ≡ p ++ (rest ++ last) = append_assoc p rest last in
      omega (arith, ap length joined, length-append p (rest ++ last), many_in ps last (All-tail Full p ps are), All-head Full p ps are)

  -- what stands at a place of a piece
  pub in_piece : (full : List (List A)) (last : List A) → All (λ (piece : List A). length piece ≡ 64) full → (k r n : ℕ) (d : List A) → k < length full → r < 64 → n ≡ 64 * k + r → slice_get (flat_map (λ (piece : List A). piece) full ++ last) n ≡ slice_get (get_or full k d) r
  in_piece [] last are k r n d lt small e = absurd (omega arith)
  in_piece (p ∷ ps) last are zero r n d lt small e =
      let rest : List A = flat_map (λ (piece : List A). piece) ps in
      let at : n ≡ r = omega (arith, e) in
      let within : n < length p = omega (arith, All-head Full p ps are, at, small) in
      ap (λ (l : List A). slice_get l n) (append_assoc p rest last) ∙ (at_left p (rest ++ last) n within ∙ ap (slice_get p) at)
  in_piece (p ∷ ps) last are (suc k) r n d lt small e =
      let rest : List A = flat_map (λ (piece : List A). piece) ps in
      let at : n ≡ length p + (64 * k + r) = omega (arith, e, All-head Full p ps are) in
      let below : k < length ps = omega (arith, lt) in
      ap (λ (l : List A). slice_get l n) (append_assoc p rest last) ∙ (at_right p (rest ++ last) (64 * k + r) n at ∙ in_piece ps last (All-tail Full p ps are) k r (64 * k + r) d below small refl)

  -- what stands behind the pieces
  pub behind_pieces : (full : List (List A)) (last : List A) → All (λ (piece : List A). length piece ≡ 64) full → (r n : ℕ) → n ≡ 64 * length full + r → slice_get (flat_map (λ (piece : List A). piece) full ++ last) n ≡ slice_get last r
  behind_pieces full last are r n e =
      let rest : List A = flat_map (λ (piece : List A). piece) full in
      let at : n ≡ length rest + r = omega (arith, e, many_in full [] are, length-append rest []) in
      at_right rest last r n at
