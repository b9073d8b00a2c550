-- Lists that are cut into pieces of 64.
use Rattle.std.proofs.Common.{◌≡◌, ℕ, zero, suc, ◌+◌, ◌*◌, ◌<◌, List, [], ◌∷◌, ◌++◌, length, get_or, All, Bool, true, Option, Some, None, IfSome, Bor, refl, sym, ap, subst, ◌∙◌, arith, append_assoc, append-nil}
use Rattle.std.specs.Prelude.{slice_get}
use Rattle.std.specs.List.{flat_map}
use Rattle.std.proofs.lemmas.Grind.{flat_map-append}
use Rattle.std.proofs.lemmas.List.{length-append}
use Rattle.std.proofs.lemmas.List.Elements.{All-append, All-cons, All-head, All-tail}
use Rattle.std.proofs.lemmas.Option.{slice_get_within}
use Rattle.go_collections_core.specs.persistent_list.Pieces.{in_pieces}
use Rattle.go_collections_core.specs.persistent_list.Staying.{StaysWhere}

module _ {A : Type 0} where
  abbrev pub IsFull : List A → Type 0
  IsFull piece = length piece ≡ 64

  abbrev joined : List (List A) → List A
  joined full = flat_map (λ (piece : List A). piece) full

  at_left : (xs ys : List A) (i : ℕ) → i < length xs → slice_get (xs ++ ys) i ≡ slice_get xs i
  at_left [] ys i lt = absurd (omega arith)
  at_left (x ∷ xs) ys zero lt = refl
  at_left (x ∷ xs) ys (suc i) lt = at_left xs ys i (omega arith)

  at_right : (xs ys : List A) (i n : ℕ) → n ≡ length xs + i → slice_get (xs ++ ys) n ≡ slice_get ys i
  at_right [] ys i n e = (let is : n ≡ i = omega (arith, e) in ap (slice_get ys) is)
  at_right (x ∷ xs) ys i zero e = absurd (omega (arith, e))
  at_right (x ∷ xs) ys i (suc n) e = at_right xs ys i n (omega (arith, e))

  -- how many there are in pieces of 64 and behind them
  pub many_in : (full : List (List A)) (last : List A) → All IsFull full → length (in_pieces full last) ≡ 64 * length full + length last
  many_in [] last are = omega arith
  many_in (p ∷ ps) last are =
      let rest : List A = joined ps in
      let parted : (p ++ rest) ++ last ≡ p ++ (rest ++ last) = append_assoc p rest last in
      omega (arith, ap length parted, length-append p (rest ++ last), many_in ps last (All-tail IsFull p ps are), All-head IsFull p ps are)

  -- what stands at a place of a piece
  pub in_piece : (full : List (List A)) (last : List A) → All IsFull full → (k r n : ℕ) (d : List A) → k < length full → r < 64 → n ≡ 64 * k + r → slice_get (in_pieces full last) n ≡ slice_get (get_or full k d) r
  in_piece [] last are k r n d lt small e = absurd (omega arith)
  in_piece (p ∷ ps) last are zero r n d lt small e =
      let rest : List A = joined ps in
      let at : n ≡ r = omega (arith, e) in
      let within : n < length p = omega (arith, All-head IsFull p ps are, at, small) in
      ap (λ (l : List A). slice_get l n) (append_assoc p rest last) ∙ (at_left p (rest ++ last) n within ∙ ap (slice_get p) at)
  in_piece (p ∷ ps) last are (suc k) r n d lt small e =
      let rest : List A = joined ps in
      let at : n ≡ length p + (64 * k + r) = omega (arith, e, All-head IsFull p ps are) in
      let below : k < length ps = omega (arith, lt) in
      ap (λ (l : List A). slice_get l n) (append_assoc p rest last) ∙ (at_right p (rest ++ last) (64 * k + r) n at ∙ in_piece ps last (All-tail IsFull p ps are) k r (64 * k + r) d below small refl)

  -- what stands behind the pieces
  pub behind_pieces : (full : List (List A)) (last : List A) → All IsFull full → (r n : ℕ) → n ≡ 64 * length full + r → slice_get (in_pieces full last) n ≡ slice_get last r
  behind_pieces full last are r n e =
      let rest : List A = joined full in
      let at : n ≡ length rest + r = omega (arith, e, many_in full [] are, length-append rest []) in
      at_right rest last r n at

  -- each piece of a list of pieces of 64 is full
  pub full_length : (full : List (List A)) → All IsFull full → (k : ℕ) (d : List A) → k < length full → length (get_or full k d) ≡ 64
  full_length full are k d lt = are k d lt

  -- two lists of as many items that agree at each place are the same
  pub same_items : (xs ys : List A) → length xs ≡ length ys → ((n : ℕ) → n < length ys → (a b : A) → slice_get xs n ≡ Some a → slice_get ys n ≡ Some b → a ≡ b) → xs ≡ ys
  same_items [] [] many agree = refl
  same_items [] (y ∷ ys) many agree = absurd (omega (arith, many))
  same_items (x ∷ xs) [] many agree = absurd (omega (arith, many))
  same_items (x ∷ xs) (y ∷ ys) many agree =
      let first : x ≡ y = agree 0 (omega arith) x y refl refl in
      let others : xs ≡ ys = same_items xs ys (omega (arith, many)) (λ n lt a b at there. agree (suc n) (omega (arith, lt)) a b at there) in
      ap (λ (a : A). a ∷ xs) first ∙ ap (λ (l : List A). y ∷ l) others

  -- where all items stay, a piece is as the earlier one
  pub piece_stays : (earlier now : List A) (same : List Bool) → StaysWhere earlier now same → length earlier ≡ length now → ((n : ℕ) → n < length now → slice_get same n ≡ Some true) → earlier ≡ now
  piece_stays earlier now same stay many marked = same_items earlier now many (λ n lt a b at there. stay n (marked n lt) a b at there)

  -- items that stay in a list stay in its piece
  pub stay_in_piece :
      (earlier items piece last rest : List A) (full : List (List A)) (same marks : List Bool)
      → StaysWhere earlier items same
      → All IsFull full
      → in_pieces full (last ++ rest) ≡ items
      → ((n : ℕ) → n < length piece → slice_get earlier (64 * length full + n) ≡ slice_get piece n)
      → ((n : ℕ) → slice_get marks n ≡ Some true → slice_get same (64 * length full + n) ≡ Some true)
      → StaysWhere piece last marks
  stay_in_piece earlier items piece last rest full same marks stay are all is marked n mark a b at there =
      let place : ℕ = 64 * length full + n in
      let here : slice_get (last ++ rest) n ≡ Some b = at_left last rest n (slice_get_within last n b there) ∙ there in
      let whole : slice_get items place ≡ Some b = ap (λ (l : List A). slice_get l place) (sym all) ∙ (behind_pieces full (last ++ rest) are n place refl ∙ here) in
      stay place (marked n mark) a b (is n (slice_get_within piece n a at) ∙ at) whole

  -- one more piece
  pub full_more : (full : List (List A)) (piece : List A) → All IsFull full → length piece ≡ 64 → All IsFull (full ++ piece ∷ [])
  full_more full piece are filled = All-append IsFull full (piece ∷ []) are (All-cons IsFull piece [] filled (λ k d lt. absurd (omega arith)))

  -- what stands behind the pieces becomes one
  pub cut_more : (full : List (List A)) (piece rest : List A) → in_pieces (full ++ piece ∷ []) rest ≡ in_pieces full (piece ++ rest)
  cut_more full piece rest =
      ap (λ (l : List A). l ++ rest) (flat_map-append (λ (p : List A). p) full (piece ∷ []) ∙ ap (λ (l : List A). joined full ++ l) (append-nil piece))
      ∙ append_assoc (joined full) piece rest

  -- the same of a piece that may be there
  pub stay_in_some :
      (earlier items last rest : List A) (full : List (List A)) (same marks : List Bool) (number : ℕ) (piece : Option (Bor (List A)))
      → StaysWhere earlier items same
      → All IsFull full
      → number ≡ length full
      → in_pieces full (last ++ rest) ≡ items
      → IfSome piece (λ p. (n : ℕ) → n < length p.now → slice_get earlier (64 * number + n) ≡ slice_get p.now n)
      → ((n : ℕ) → slice_get marks n ≡ Some true → slice_get same (64 * number + n) ≡ Some true)
      → IfSome piece (λ p. StaysWhere p.now last marks)
  stay_in_some earlier items last rest full same marks number None stay are many all is marked = tt
  stay_in_some earlier items last rest full same marks number (Some p) stay are many all is marked =
      stay_in_piece earlier items p.now last rest full same marks stay are all
      (subst (λ (k : ℕ). (n : ℕ) → n < length p.now → slice_get earlier (64 * k + n) ≡ slice_get p.now n) many is)
      (subst (λ (k : ℕ). (n : ℕ) → slice_get marks n ≡ Some true → slice_get same (64 * k + n) ≡ Some true) many marked)

  -- a piece that is full goes to the others, and nothing is left behind them
  pub cut_full :
      (full grown : List (List A)) (piece last left rest items : List A)
      → grown ≡ full ++ piece ∷ []
      → piece ≡ last
      → left ≡ []
      → length last ≡ 64
      → All IsFull full
      → in_pieces full (last ++ rest) ≡ items
      → All IsFull grown × (length left < 64) × (in_pieces grown (left ++ rest) ≡ items)
  cut_full full grown piece last left rest items is same none filled are all =
      let many : length piece ≡ 64 = ap length same ∙ filled in
      let whole : in_pieces (full ++ piece ∷ []) rest ≡ items = cut_more full piece rest ∙ (ap (λ (l : List A). in_pieces full (l ++ rest)) same ∙ all) in
      let fits : length left < 64 = omega (arith, ap length none) in (
        subst (All IsFull) (sym is) (full_more full piece are many),
        fits,
        subst (λ (f : List (List A)). in_pieces f (left ++ rest) ≡ items) (sym is) (subst (λ (l : List A). in_pieces (full ++ piece ∷ []) (l ++ rest) ≡ items) (sym none) whole),
      )

  -- one item more stands behind the pieces, and one fewer is left
  pub cut_next : (full : List (List A)) (last more before rest items : List A) (x : A) → in_pieces full (last ++ before) ≡ items → more ≡ last ++ x ∷ [] → before ≡ x ∷ rest → in_pieces full (more ++ rest) ≡ items
  cut_next full last more before rest items x all is parted =
      ap (λ (l : List A). in_pieces full (l ++ rest)) is
      ∙ (ap (in_pieces full) (append_assoc last (x ∷ []) rest) ∙ (ap (λ (l : List A). in_pieces full (last ++ l)) (sym parted) ∙ all))
