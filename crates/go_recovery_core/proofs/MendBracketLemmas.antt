-- The steps of the loops over tokens.
use Rattle.std.proofs.Common.{◌≡◌, ℕ, suc, ◌-◌, ◌<◌, true, false, List, Some, None, sym, ap, ◌∙◌, arith}
use Rattle.std.specs.Prelude.{Option, slice_get, if◌then◌else◌}
use Rattle.go_tree_nodes.specs.token_core.declared.token.Token.{Token}
use Rattle.go_recovery_core.specs.mend.Tokens.{assign_before, is_assign, is_semicolon, kind_at, line_before, open_before, opened, seen}

back : (at : ℕ) → 0 < at → at ≡ suc (at - 1)
back at some = omega (arith, some)

-- a token more is read
pub open_next : (tokens : List Token) (at closed count : ℕ) → 0 < at → seen (kind_at tokens (at - 1)) closed ≡ Some count → open_before tokens (at - 1) count ≡ open_before tokens at closed
open_next tokens at closed count some same = sym (ap (λ n. open_before tokens n closed) (back at some) ∙ ap (λ s. opened s (at - 1) (open_before tokens (at - 1))) same)

-- the bracket that is open
pub open_here : (tokens : List Token) (at closed : ℕ) → 0 < at → seen (kind_at tokens (at - 1)) closed ≡ None → Some (at - 1) ≡ open_before tokens at closed
open_here tokens at closed some same = sym (ap (λ n. open_before tokens n closed) (back at some) ∙ ap (λ s. opened s (at - 1) (open_before tokens (at - 1))) same)

-- a token more is read
pub line_next : (tokens : List Token) (at : ℕ) → 0 < at → is_semicolon (kind_at tokens (at - 1)) ≡ false → line_before tokens (at - 1) ≡ line_before tokens at
line_next tokens at some same = sym (ap (line_before tokens) (back at some) ∙ ap (λ b. if b then suc (at - 1) else line_before tokens (at - 1)) same)

-- the line begins
pub line_here : (tokens : List Token) (at : ℕ) → 0 < at → is_semicolon (kind_at tokens (at - 1)) ≡ true → at ≡ line_before tokens at
line_here tokens at some same = back at some ∙ sym (ap (line_before tokens) (back at some) ∙ ap (λ b. if b then suc (at - 1) else line_before tokens (at - 1)) same)

-- what stands before a token, by the one in front of it
assign_step : (tokens : List Token) (at : ℕ) → 0 < at
    → assign_before tokens at ≡ (if is_semicolon (kind_at tokens (at - 1)) then None else if is_assign (kind_at tokens (at - 1)) then slice_get tokens (at - 1) else assign_before tokens (at - 1))
assign_step tokens at some = ap (assign_before tokens) (back at some)

-- a token more is read
pub assign_next : (tokens : List Token) (at : ℕ) → 0 < at → is_semicolon (kind_at tokens (at - 1)) ≡ false → is_assign (kind_at tokens (at - 1)) ≡ false
    → assign_before tokens (at - 1) ≡ assign_before tokens at
assign_next tokens at some line mark = sym (
    assign_step tokens at some
    ∙ (ap (λ b. if b then None else if is_assign (kind_at tokens (at - 1)) then slice_get tokens (at - 1) else assign_before tokens (at - 1)) line
    ∙ ap (λ b. if b then slice_get tokens (at - 1) else assign_before tokens (at - 1)) mark)
    )

-- the mark stands there
pub assign_here : (tokens : List Token) (at : ℕ) → 0 < at → is_semicolon (kind_at tokens (at - 1)) ≡ false → is_assign (kind_at tokens (at - 1)) ≡ true
    → slice_get tokens (at - 1) ≡ assign_before tokens at
assign_here tokens at some line mark = sym (
    assign_step tokens at some
    ∙ (ap (λ b. if b then None else if is_assign (kind_at tokens (at - 1)) then slice_get tokens (at - 1) else assign_before tokens (at - 1)) line
    ∙ ap (λ b. if b then slice_get tokens (at - 1) else assign_before tokens (at - 1)) mark)
    )

-- the line begins
pub assign_none : (tokens : List Token) (at : ℕ) → 0 < at → is_semicolon (kind_at tokens (at - 1)) ≡ true → None ≡ assign_before tokens at
assign_none tokens at some line = sym (
    assign_step tokens at some
    ∙ ap (λ b. if b then None else if is_assign (kind_at tokens (at - 1)) then slice_get tokens (at - 1) else assign_before tokens (at - 1)) line
    )
