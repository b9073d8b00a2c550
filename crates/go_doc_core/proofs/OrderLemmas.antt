-- Comments stand one behind another.
use Rattle.std.proofs.Common.{◌≡◌, ℕ, zero, suc, ◌<◌, ◌≤◌, true, false, List, [], ◌∷◌, length, get_or, arith}
use Rattle.std.specs.Prelude.{nat_le}
use Rattle.std.specs.List.Sorted.{IsNonDecreasingBy, IsPartitionPoint, IsPartitionedBy}
use Rattle.go_tree_nodes.specs.token_core.declared.token.Comment.{Comment}
use Rattle.go_scan_core.specs.Tokens.{CommentsInOrder}

-- a comment stands between the bounds
pub bounds : (cs : List Comment) (low size k : ℕ) (d : Comment) → CommentsInOrder low cs size → k < length cs → (low ≤ (get_or cs k d).span.start) × ((get_or cs k d).span.start ≤ (get_or cs k d).span.end) × ((get_or cs k d).span.end ≤ size)
bounds [] low size k d order lt = absurd (omega (arith, lt))
bounds (c ∷ cs) low size zero d order lt = (order.0, order.1, ends cs c.span.end size order.2)
  where
    ends : (cs : List Comment) (low size : ℕ) → CommentsInOrder low cs size → low ≤ size
    ends [] low size order = order
    ends (c ∷ cs) low size order = let r = ends cs c.span.end size order.2 in omega (arith, order.0, order.1, r)
bounds (c ∷ cs) low size (suc k) d order lt =
    let r = bounds cs c.span.end size k d order.2 (omega (arith, lt)) in
    (omega (arith, order.0, order.1, r.0), r.1, r.2)

-- each one ends before the next one starts
pub ordered : (cs : List Comment) (low size i j : ℕ) (d : Comment) → CommentsInOrder low cs size → i < j → j < length cs → (get_or cs i d).span.end ≤ (get_or cs j d).span.start
ordered [] low size i j d order less lt = absurd (omega (arith, lt))
ordered (c ∷ cs) low size i zero d order less lt = absurd (omega (arith, less))
ordered (c ∷ cs) low size zero (suc j) d order less lt = (bounds cs c.span.end size j d order.2 (omega (arith, lt))).0
ordered (c ∷ cs) low size (suc i) (suc j) d order less lt = ordered cs c.span.end size i j d order.2 (omega (arith, less)) (omega (arith, lt))

-- the ends do not fall
pub ends_rise : (cs : List Comment) (low size i j : ℕ) (d : Comment) → CommentsInOrder low cs size → i ≤ j → j < length cs → (get_or cs i d).span.end ≤ (get_or cs j d).span.end
ends_rise [] low size i j d order less lt = absurd (omega (arith, lt))
ends_rise (c ∷ cs) low size zero zero d order less lt = omega arith
ends_rise (c ∷ cs) low size (suc i) zero d order less lt = absurd (omega (arith, less))
ends_rise (c ∷ cs) low size zero (suc j) d order less lt =
    let r = bounds cs c.span.end size j d order.2 (omega (arith, lt)) in omega (arith, r.0, r.1)
ends_rise (c ∷ cs) low size (suc i) (suc j) d order less lt = ends_rise cs c.span.end size i j d order.2 (omega (arith, less)) (omega (arith, lt))

pub at_most : (m n : ℕ) → nat_le m n ≡ true → m ≤ n
at_most m n e = grind arith

pub is_at_most : (m n : ℕ) → m ≤ n → nat_le m n ≡ true
is_at_most m n e = grind arith

not_most : (m n : ℕ) → nat_le m n ≡ false → n < m
not_most m n e = grind arith

-- those that end before an offset stand in front
pub ends_part : (cs : List Comment) (at : ℕ) → IsNonDecreasingBy (λ (c : Comment). c.span.end) cs → IsPartitionedBy (λ (c : Comment). nat_le c.span.end at) cs
ends_part cs at rises = λ i j d le lt is. (let rise = rises i j d le lt in let under = at_most (get_or cs j d).span.end at is in is_at_most (get_or cs i d).span.end at (omega (arith, rise, under)))

pub split_there : (cs : List Comment) (at n : ℕ) → IsPartitionPoint (λ (c : Comment). nat_le c.span.end at ≡ true) (λ (c : Comment). nat_le c.span.end at ≡ false) cs n → IsPartitionPoint (λ (c : Comment). c.span.end ≤ at) (λ (c : Comment). at < c.span.end) cs n
split_there cs at n h = ((λ k d low high. at_most (get_or cs k d).span.end at (h.0 k d low high)), (λ k d low high. not_most (get_or cs k d).span.end at (h.1 k d low high)))
