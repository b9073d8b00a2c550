-- Lists that grow by one at a time.
use Rattle.std.proofs.Common.{◌≡◌, ◌<◌, ◌+◌, ◌⊎◌, inl, inr, ℕ, zero, suc, List, [], ◌∷◌, ◌++◌, length, Option, Some, None, refl, sym, ap, ◌∙◌, subst, arith}
use Rattle.std.specs.Prelude.{IfSome}
use Rattle.std.specs.List.{slice_get}
use Rattle.std.proofs.lemmas.Option.{slice_get_within}
use Rattle.std.proofs.lemmas.List.{length_push}

-- what stands where one more stands at the end
pub at_end : {X : Type 0} (xs : List X) (x : X) → slice_get (xs ++ x ∷ []) (length xs) ≡ Some x
at_end [] x = refl
at_end (y ∷ xs) x = at_end xs x

pub at_front : {X : Type 0} (xs : List X) (x : X) (i : ℕ) → i < length xs → slice_get (xs ++ x ∷ []) i ≡ slice_get xs i
at_front [] x i lt = absurd (omega arith)
at_front (y ∷ xs) x zero lt = refl
at_front (y ∷ xs) x (suc i) lt = at_front xs x i (omega arith)

pub longer : {X : Type 0} (old new : List X) (n : ℕ) (x : X) → length old ≡ n → new ≡ old ++ x ∷ [] → length new ≡ n + 1
longer old new n x len is = ap length is ∙ length_push old x ∙ ap (λ k. k + 1) len

-- a number below the next one is that one or below it
next_step : (i n : ℕ) → (i ≡ n) ⊎ (i < n) → (suc i ≡ suc n) ⊎ (suc i < suc n)
next_step i n (inl e) = inl (ap suc e)
next_step i n (inr lt) = inr (omega (arith, lt))

pub below_next : (i n : ℕ) → i < n + 1 → (i ≡ n) ⊎ (i < n)
below_next zero zero lt = inl refl
below_next zero (suc n) lt = inr (omega arith)
below_next (suc i) zero lt = absurd (omega arith)
below_next (suc i) (suc n) lt = next_step i n (below_next i n (omega arith))

one_option : (P : ℕ → Type 0) (o : Option ℕ) (j : ℕ) → Some o ≡ Some (Some j) → IfSome o P → P j
one_option P None j e held = absurd (cc)
one_option P (Some k) j e held = (let same : k ≡ j = (cc) in subst P same held)

-- what is known of each number of a list of options is known of one more
pub held_more : (P : ℕ → ℕ → Type 0) (old new : List (Option ℕ)) (n : ℕ) (o : Option ℕ) → length old ≡ n → new ≡ old ++ o ∷ [] → IfSome o (P n)
    → ((i j : ℕ) → slice_get old i ≡ Some (Some j) → P i j) → (i j : ℕ) → slice_get new i ≡ Some (Some j) → P i j
held_more P old new n o len is held each i j h =
    let within : i < length new = slice_get_within new i (Some j) h in
    let many : length new ≡ n + 1 = longer old new n o len is in
    let there : slice_get (old ++ o ∷ []) i ≡ Some (Some j) = ap (λ l. slice_get l i) (sym is) ∙ h in
    elim (below_next i n (omega (arith, within, many))) [
      | inl e ↦
          (let Q : ℕ → Type 0 = λ x. P x j in
          let R : ℕ → Type 0 = λ x. slice_get (old ++ o ∷ []) x ≡ Some (Some j) in
          let last : slice_get (old ++ o ∷ []) (length old) ≡ Some (Some j) = subst R (e ∙ sym len) there in
          subst Q (sym e) (one_option (P n) o j (sym (at_end old o) ∙ last) held))
      | inr lt ↦ each i j (sym (at_front old o i (omega (arith, lt, len))) ∙ there)
    ]
