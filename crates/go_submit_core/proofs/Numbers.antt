-- The last batch that has a ticket.
use Rattle.std.proofs.Common.{◌≡◌, ℕ, suc, ◌+◌, ◌≤◌, true, false, cond, List, [], ◌∷◌, ◌++◌, length, take, get_or, Option, Some, None, ap, ◌∙◌, arith}
use Rattle.std.specs.Prelude.{slice_get}
use Rattle.std.proofs.lemmas.List.{take_more, take_all, length-take-le}
use Rattle.std.proofs.lemmas.Option.{get_or_from_slice_get, slice_get_within}
use Rattle.go_submit_core.specs.declared.published.PublishedBatch.{PublishedBatch}
use Rattle.go_submit_core.specs.Published.{number_behind, number_of}
use Rattle.go_submit_core.specs.Submitted.{has_ticket}

-- one more batch at the end decides
behind_push : (n k : ℕ) (bs : List PublishedBatch) (b : PublishedBatch) (found : Option ℕ) → number_behind n k (bs ++ b ∷ []) found ≡ cond (has_ticket n b.submissions) (Some (k + length bs + 1)) (number_behind n k bs found)
behind_push n k [] b found = ap (λ m. cond (has_ticket n b.submissions) (Some m) found) (let e : k + 1 ≡ k + 0 + 1 = omega arith in e)
behind_push n k (x ∷ bs) b found =
    behind_push n (k + 1) bs b (cond (has_ticket n x.submissions) (Some (k + 1)) found)
    ∙ ap (λ m. cond (has_ticket n b.submissions) (Some m) (number_behind n (k + 1) bs (cond (has_ticket n x.submissions) (Some (k + 1)) found))) (let e : k + 1 + length bs + 1 ≡ k + suc (length bs) + 1 = omega arith in e)

up_to : (n : ℕ) (bs : List PublishedBatch) (i : ℕ) (b : PublishedBatch) → slice_get bs i ≡ Some b → number_of n (take (i + 1) bs) ≡ cond (has_ticket n b.submissions) (Some (i + 1)) (number_of n (take i bs))
up_to n bs i b at =
    let within = slice_get_within bs i b at in
    let read : get_or bs i b ≡ b = get_or_from_slice_get bs i b b at in
    ap (number_of n) (take_more bs i b within ∙ ap (λ (x : PublishedBatch). take i bs ++ x ∷ []) read)
    ∙ behind_push n 0 (take i bs) b None
    ∙ ap (λ m. cond (has_ticket n b.submissions) (Some m) (number_of n (take i bs))) (let e : 0 + length (take i bs) + 1 ≡ i + 1 = omega (arith, length-take-le i bs (omega (arith, within)), within) in e)

-- the batch that is looked at has it
pub number_here : (n : ℕ) (bs : List PublishedBatch) (i : ℕ) (b : PublishedBatch) → slice_get bs i ≡ Some b → has_ticket n b.submissions ≡ true → number_of n (take (i + 1) bs) ≡ Some (i + 1)
number_here n bs i b at has = up_to n bs i b at ∙ ap (λ t. cond t (Some (i + 1)) (number_of n (take i bs))) has

-- it has it not
pub number_on : (n : ℕ) (bs : List PublishedBatch) (i : ℕ) (b : PublishedBatch) → slice_get bs i ≡ Some b → has_ticket n b.submissions ≡ false → number_of n (take (i + 1) bs) ≡ number_of n (take i bs)
number_on n bs i b at has = up_to n bs i b at ∙ ap (λ t. cond t (Some (i + 1)) (number_of n (take i bs))) has

-- the first place looked at is the last, and the last the first
pub number_all : (n : ℕ) (bs : List PublishedBatch) (i : ℕ) → length bs ≤ i → number_of n (take i bs) ≡ number_of n bs
number_all n bs i end = ap (number_of n) (take_all i bs end)
