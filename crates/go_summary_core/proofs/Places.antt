-- Places in pieces that stand one behind another, and places that are picked out of a list.
use Rattle.std.proofs.Common.{◌≡◌, ℕ, zero, suc, ◌+◌, ◌*◌, ◌<◌, List, [], ◌∷◌, ◌++◌, length, map, get_or, All, Option, Some, None, refl, sym, ap, subst, ◌∙◌, arith, append_assoc}
use Rattle.std.specs.Prelude.{slice_get}
use Rattle.std.specs.List.{filter_map, flat_map, cons_option}
use Rattle.std.proofs.lemmas.List.{length-append}
use Rattle.std.proofs.lemmas.Option.{get_or_from_slice_get}
use Rattle.std.proofs.lemmas.List.Elements.{All-cons, All-head, All-tail}

module _ {A : Type 0} where
  pub at_left : (xs ys : List A) (i : ℕ) → i < length xs → slice_get (xs ++ ys) i ≡ slice_get xs i
  at_left [] ys i lt = absurd (omega arith)
  at_left (x ∷ xs) ys zero lt = refl
  at_left (x ∷ xs) ys (suc i) lt = at_left xs ys i (omega arith)

  pub at_right : (xs ys : List A) (i n : ℕ) → n ≡ length xs + i → slice_get (xs ++ ys) n ≡ slice_get ys i
  at_right [] ys i n e = (let is : n ≡ i = omega (arith, e) in ap (slice_get ys) is)
  at_right (x ∷ xs) ys i zero e = absurd (omega (arith, e))
  at_right (x ∷ xs) ys i (suc n) e = at_right xs ys i n (omega (arith, e))

  abbrev Full : List A → Type 0
  Full piece = length piece ≡ 64

  -- how many there are in pieces of 64 and behind them
  pub many_in : (full : List (List A)) (last : List A) → All (λ (piece : List A). length piece ≡ 64) full → length (flat_map (λ (piece : List A). piece) full ++ last) ≡ 64 * length full + length last
  many_in [] last are = omega arith
  many_in (p ∷ ps) last are =
      let rest : List A = flat_map (λ (piece : List A). piece) ps in
      let joined : (p ++ rest) ++ last ≡ p ++ (rest ++ last) = append_assoc p rest last in
      omega (arith, ap length joined, length-append p (rest ++ last), many_in ps last (All-tail Full p ps are), All-head Full p ps are)

  -- what stands at a place of a piece
  pub in_piece : (full : List (List A)) (last : List A) → All (λ (piece : List A). length piece ≡ 64) full → (k r n : ℕ) (d : List A) → k < length full → r < 64 → n ≡ 64 * k + r → slice_get (flat_map (λ (piece : List A). piece) full ++ last) n ≡ slice_get (get_or full k d) r
  in_piece [] last are k r n d lt small e = absurd (omega arith)
  in_piece (p ∷ ps) last are zero r n d lt small e =
      let rest : List A = flat_map (λ (piece : List A). piece) ps in
      let at : n ≡ r = omega (arith, e) in
      let within : n < length p = omega (arith, All-head Full p ps are, at, small) in
      ap (λ (l : List A). slice_get l n) (append_assoc p rest last) ∙ (at_left p (rest ++ last) n within ∙ ap (slice_get p) at)
  in_piece (p ∷ ps) last are (suc k) r n d lt small e =
      let rest : List A = flat_map (λ (piece : List A). piece) ps in
      let at : n ≡ length p + (64 * k + r) = omega (arith, e, All-head Full p ps are) in
      let below : k < length ps = omega (arith, lt) in
      ap (λ (l : List A). slice_get l n) (append_assoc p rest last) ∙ (at_right p (rest ++ last) (64 * k + r) n at ∙ in_piece ps last (All-tail Full p ps are) k r (64 * k + r) d below small refl)

  -- what stands behind the pieces
  pub behind_pieces : (full : List (List A)) (last : List A) → All (λ (piece : List A). length piece ≡ 64) full → (r n : ℕ) → n ≡ 64 * length full + r → slice_get (flat_map (λ (piece : List A). piece) full ++ last) n ≡ slice_get last r
  behind_pieces full last are r n e =
      let rest : List A = flat_map (λ (piece : List A). piece) full in
      let at : n ≡ length rest + r = omega (arith, e, many_in full [] are, length-append rest []) in
      at_right rest last r n at

  -- there is an item at each place that lies inside
  pub there_is : (xs : List A) (p : ℕ) → p < length xs → (x : A) × (slice_get xs p ≡ Some x)
  there_is [] p lt = absurd (omega arith)
  there_is (x ∷ xs) zero lt = (x, refl)
  there_is (x ∷ xs) (suc p) lt = there_is xs p (omega arith)

  -- what is picked out of a list at places that lie inside
  module _ (xs : List A) where
    abbrev Inside : ℕ → Type 0
    Inside p = p < length xs

    abbrev pick : List ℕ → List A
    pick ps = filter_map (slice_get xs) ps

    pub picked_are : (ps : List ℕ) → All (λ (p : ℕ). p < length xs) ps → map Some (filter_map (slice_get xs) ps) ≡ map (slice_get xs) ps
    picked_are [] below = refl
    picked_are (p ∷ ps) below =
        let x = there_is xs p (All-head Inside p ps below) in
        ap (λ (o : Option A). map Some (cons_option o (pick ps))) x.1
        ∙ (ap (λ (l : List (Option A)). Some x.0 ∷ l) (picked_are ps (All-tail Inside p ps below)) ∙ ap (λ (o : Option A). o ∷ map (slice_get xs) ps) (sym x.1))

    pub picked_many : (ps : List ℕ) → All (λ (p : ℕ). p < length xs) ps → length (filter_map (slice_get xs) ps) ≡ length ps
    picked_many [] below = refl
    picked_many (p ∷ ps) below =
        let x = there_is xs p (All-head Inside p ps below) in
        ap (λ (o : Option A). length (cons_option o (pick ps))) x.1 ∙ ap suc (picked_many ps (All-tail Inside p ps below))

    -- what stands at a number of what is picked
    pub picked_at : (ps : List ℕ) → All (λ (p : ℕ). p < length xs) ps → (i p : ℕ) → slice_get ps i ≡ Some p → slice_get (filter_map (slice_get xs) ps) i ≡ slice_get xs p
    picked_at [] below i p at = (let e : None ≡ Some p = at in absurd cc)
    picked_at (q ∷ ps) below zero p at =
        let x = there_is xs q (All-head Inside q ps below) in
        let same : q ≡ p = (let e : Some q ≡ Some p = at in cc) in
        ap (λ (o : Option A). slice_get (cons_option o (pick ps)) 0) x.1 ∙ (sym x.1 ∙ ap (slice_get xs) same)
    picked_at (q ∷ ps) below (suc i) p at =
        let x = there_is xs q (All-head Inside q ps below) in
        ap (λ (o : Option A). slice_get (cons_option o (pick ps)) (suc i)) x.1 ∙ picked_at ps (All-tail Inside q ps below) i p at

    pub picked_own : (P : A → Type 0) → All P xs → (ps : List ℕ) → All (λ (p : ℕ). p < length xs) ps → All P (filter_map (slice_get xs) ps)
    picked_own P are [] below = λ k d lt. absurd (omega arith)
    picked_own P are (p ∷ ps) below =
        let x = there_is xs p (All-head Inside p ps below) in
        let within : p < length xs = All-head Inside p ps below in
        let own : P x.0 = subst P (get_or_from_slice_get xs p x.0 x.0 x.1) (are p x.0 within) in
        subst (λ (o : Option A). All P (cons_option o (pick ps))) (sym x.1) (All-cons P x.0 (pick ps) own (picked_own P are ps (All-tail Inside p ps below)))
