-- Lists that get one summary more.
use Rattle.std.proofs.Common.{◌≡◌, ℕ, zero, suc, ◌+◌, ◌<◌, ◌≤◌, List, [], ◌∷◌, ◌++◌, length, take, All, refl, sym, ap, subst, ◌∙◌, arith, append_assoc, append-nil}
use Rattle.std.specs.Prelude.{slice_get}
use Rattle.std.specs.List.{cons_option, flat_map}
use Rattle.std.proofs.lemmas.Grind.{flat_map-append}
use Rattle.std.proofs.lemmas.List.{length-append}
use Rattle.std.proofs.lemmas.List.Elements.{All-append, All-cons}
use Rattle.go_summary_core.specs.Summaries.{SummaryModel, IsOfOne}
use Rattle.go_summary_core.specs.Told.{IsListed, listed}

one_own : (s : SummaryModel) → IsOfOne s → All IsOfOne (s ∷ [])
one_own s own = All-cons IsOfOne s [] own (λ k d lt. absurd (omega arith))

-- pieces with one more, and nothing behind them
pub listed_filled : (full : List (List SummaryModel)) (piece : List SummaryModel) → listed (full ++ piece ∷ []) [] ≡ listed full piece
listed_filled full piece =
    append-nil (flat_map (λ (p : List SummaryModel). p) (full ++ piece ∷ []))
    ∙ (flat_map-append (λ (p : List SummaryModel). p) full (piece ∷ []) ∙ ap (λ (l : List SummaryModel). flat_map (λ (p : List SummaryModel). p) full ++ l) (append-nil piece))

module _ (full : List (List SummaryModel)) (last : List SummaryModel) (count n : ℕ) (s : SummaryModel) (before : IsListed full last count) (more : n ≡ count + 1) (own : IsOfOne s) where
  pub listed_more : listed full (last ++ s ∷ []) ≡ listed full last ++ s ∷ []
  listed_more = sym (append_assoc (flat_map (λ (p : List SummaryModel). p) full) last (s ∷ []))

  many_more : n ≡ length (listed full (last ++ s ∷ []))
  many_more = omega (arith, more, before.many, ap length listed_more, length-append (listed full last) (s ∷ []))

  own_more : All IsOfOne (listed full (last ++ s ∷ []))
  own_more = subst (All IsOfOne) (sym listed_more) (All-append IsOfOne (listed full last) (s ∷ []) before.own (one_own s own))

  -- there is room behind the pieces
  pub behind_grown : (full' : List (List SummaryModel)) (last' : List SummaryModel) → full' ≡ full → last' ≡ last ++ s ∷ [] → length last + 1 < 64 → IsListed full' last' n
  behind_grown full' last' same is small =
      let grown : IsListed full (last ++ s ∷ []) n = record { filled = before.filled; rest = omega (arith, small, length-append last (s ∷ [])); many = many_more; own = own_more } in
      subst (λ (l : List (List SummaryModel)). IsListed l last' n) (sym same) (subst (λ (l : List SummaryModel). IsListed full l n) (sym is) grown)

  -- what is behind the pieces becomes one
  pub piece_grown : (full' : List (List SummaryModel)) (last' piece : List SummaryModel) → full' ≡ full ++ piece ∷ [] → last' ≡ [] → piece ≡ last ++ s ∷ [] → 64 ≤ length last + 1 → IsListed full' last' n
  piece_grown full' last' piece same none is large =
      let all_same : listed (full ++ piece ∷ []) [] ≡ listed full (last ++ s ∷ []) = listed_filled full piece ∙ ap (listed full) is in
      let all : length piece ≡ 64 = omega (arith, ap length is, length-append last (s ∷ []), large, before.rest) in
      let grown : IsListed (full ++ piece ∷ []) [] n = record {
        filled = All-append (λ (p : List SummaryModel). length p ≡ 64) full (piece ∷ []) before.filled (All-cons (λ (p : List SummaryModel). length p ≡ 64) piece [] all (λ k d lt. absurd (omega arith)));
        rest = omega arith;
        many = many_more ∙ ap length (sym all_same);
        own = subst (All IsOfOne) (sym all_same) own_more;
      } in
      subst (λ (l : List (List SummaryModel)). IsListed l last' n) (sym same) (subst (λ (l : List SummaryModel). IsListed (full ++ piece ∷ []) l n) (sym none) grown)

-- a front with one more
take_after : {A : Type 0} (xs : List A) (i : ℕ) → take (suc i) xs ≡ take i xs ++ cons_option (slice_get xs i) []
take_after [] zero = refl
take_after [] (suc i) = refl
take_after (x ∷ xs) zero = refl
take_after (x ∷ xs) (suc i) = ap (λ l. x ∷ l) (take_after xs i)

pub take_next : {A : Type 0} (xs : List A) (i : ℕ) → take (i + 1) xs ≡ take i xs ++ cons_option (slice_get xs i) []
take_next xs i = let e : i + 1 ≡ suc i = omega arith in ap (λ (n : ℕ). take n xs) e ∙ take_after xs i
