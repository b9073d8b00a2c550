-- Blocks of a function that are open.
use Rattle.std.proofs.Common.{List, [], ◌∷◌, ℕ, length, ◌<◌, arith}
use Rattle.go_names_core.specs.scope_stack.Blocks.{with_innermost}

-- where a block is open, one is open with another in place of the innermost
pub stays_open : {X : Type 0} (blocks : List (List (List ℕ × X))) (new : List (List ℕ × X)) → 0 < length blocks → 0 < length (with_innermost blocks new)
stays_open [] new h = h
stays_open (b ∷ []) new h = h
stays_open (b ∷ c ∷ bs) new h = let lt : 0 < length (b ∷ with_innermost (c ∷ bs) new) = omega arith in lt
