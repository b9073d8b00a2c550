-- The tokens of a text around an offset.
use Rattle.std.specs.Prelude.{ℕ, zero, suc, ◌+◌, ◌-◌, nat_lt, Bool, false, true, List, [], Option, None, Some, slice_get, Result, Ok, Err, if◌then◌else◌}
use Rattle.std.specs.List.{prefix_len}
use Rattle.std.specs.Option.{option_map}
use Rattle.go_tree_nodes.specs.token_core.declared.token.LexFault.{LexFault}
use Rattle.go_tree_nodes.specs.token_core.declared.token.Token.{Token}
use Rattle.go_tree_nodes.specs.token_core.declared.kind.TokenKind.{TokenKind}
use Rattle.go_tree_nodes.specs.token_core.declared.kind.TokenKind.TheVariants as kinds
use Rattle.go_tree_nodes.specs.token_core.declared.kind.Operator.TheVariants as operators

-- the tokens, and none of a text that has a fault
abbrev pub tokens_or_none : Result (List Token) LexFault → List Token
tokens_or_none (Ok tokens) = tokens
tokens_or_none (Err fault) = []

-- how many tokens begin before an offset, so the number of the one that stands at it
abbrev pub place_of : List Token → ℕ → ℕ
place_of tokens offset = prefix_len (λ t. nat_lt t.span.start offset) tokens

abbrev pub kind_at : List Token → ℕ → Option TokenKind
kind_at tokens n = option_map (λ t. t.kind) (slice_get tokens n)

-- the kind of the token that stands so many before the one of a number
abbrev pub kind_before : List Token → ℕ → ℕ → Option TokenKind
kind_before tokens n count = if nat_lt n count then None else kind_at tokens (n - count)

abbrev pub is_opening : Option TokenKind → Bool
is_opening (Some (kinds.Operator operators.OpenParen)) = true
is_opening (Some (kinds.Operator operators.OpenBracket)) = true
is_opening (Some (kinds.Operator operators.OpenBrace)) = true
is_opening _ = false

abbrev pub is_closing : Option TokenKind → Bool
is_closing (Some (kinds.Operator operators.CloseParen)) = true
is_closing (Some (kinds.Operator operators.CloseBracket)) = true
is_closing (Some (kinds.Operator operators.CloseBrace)) = true
is_closing _ = false

abbrev pub is_semicolon : Option TokenKind → Bool
is_semicolon (Some (kinds.Operator operators.Semicolon)) = true
is_semicolon _ = false

abbrev pub is_assign : Option TokenKind → Bool
is_assign (Some (kinds.Operator operators.Assign)) = true
is_assign _ = false

-- how many closing brackets have no partner yet where one token more is an opening one, and none where that has no partner itself
abbrev pub fewer : ℕ → Option ℕ
fewer zero = None
fewer (suc n) = Some n

-- how many closing brackets have no partner yet, with one token more
abbrev pub seen : Option TokenKind → ℕ → Option ℕ
seen kind closed = if is_closing kind then Some (closed + 1) else if is_opening kind then fewer closed else Some closed

abbrev pub opened : Option ℕ → ℕ → (ℕ → Option ℕ) → Option ℕ
opened (Some closed) n earlier = earlier closed
opened None n earlier = Some n

-- the number of the innermost bracket that is open before the token of a number, read from right to left: the last opening bracket behind which each
-- opening bracket has its closing one and each closing one its opening one. So many closing brackets behind have no partner yet
abbrev pub open_before : List Token → ℕ → ℕ → Option ℕ
open_before tokens zero closed = None
open_before tokens (suc n) closed = opened (seen (kind_at tokens n) closed) n (open_before tokens n)

-- the number of the first token behind the last semicolon that stands before the token of a number
abbrev pub line_before : List Token → ℕ → ℕ
line_before tokens zero = zero
line_before tokens (suc n) = if is_semicolon (kind_at tokens n) then suc n else line_before tokens n

-- the last `=` behind the last semicolon that stands before the token of a number
abbrev pub assign_before : List Token → ℕ → Option Token
assign_before tokens zero = None
assign_before tokens (suc n) =
    if is_semicolon (kind_at tokens n) then None
    else if is_assign (kind_at tokens n) then slice_get tokens n
    else assign_before tokens n

-- the token before the innermost open bracket
abbrev pub opener_of : List Token → Option ℕ → Option TokenKind
opener_of tokens None = None
opener_of tokens (Some n) = kind_before tokens n 1

abbrev pub bracket_of : List Token → Option ℕ → Option TokenKind
bracket_of tokens None = None
bracket_of tokens (Some n) = kind_at tokens n
