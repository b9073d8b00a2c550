-- The changes that are tried.
use Rattle.std.specs.Prelude.{ℕ, zero, suc, Bool, false, true, ◌&&◌, ◌||◌, ◌+◌, nat_eq, List, [], ◌∷◌, Option, None, Some, slice_get, if◌then◌else◌}
use Rattle.std.specs.List.{list_all}
use Rattle.go_tree_nodes.specs.text_core.Slices.{slice_of}
use Rattle.go_tree_nodes.specs.token_core.declared.token.Token.{Token}
use Rattle.go_tree_nodes.specs.token_core.declared.kind.TokenKind.{TokenKind}
use Rattle.go_tree_nodes.specs.token_core.declared.kind.TokenKind.TheVariants as kinds
use Rattle.go_tree_nodes.specs.token_core.declared.kind.Operator.TheVariants as operators
use Rattle.go_recovery_core.specs.declared.mend.mending.Mark.{Mark}
use Rattle.go_recovery_core.specs.declared.mend.mending.Mark.TheVariants as marks
use Rattle.go_recovery_core.specs.declared.mend.mending.Mending.{Mending}
use Rattle.go_recovery_core.specs.declared.mend.mending.Mending.TheVariants as mendings
use Rattle.go_recovery_core.specs.mend.Forms.{is_mark}
use Rattle.go_recovery_core.specs.mend.Tokens.{assign_before, bracket_of, open_before}

-- the mark that closes a bracket
abbrev pub closing_of : Option TokenKind → Option Mark
closing_of (Some (kinds.Operator operators.OpenParen)) = Some marks.CloseParen
closing_of (Some (kinds.Operator operators.OpenBrace)) = Some marks.CloseBrace
closing_of _ = None

abbrev pub put_in : Option Mark → ℕ → Option Mending
put_in (Some mark) at = Some (mendings.PutIn mark at)
put_in None at = None

abbrev pub token_before : List Token → ℕ → Option Token
token_before tokens zero = None
token_before tokens (suc n) = slice_get tokens n

-- where a token ends, and 0 where there is none
abbrev pub end_of : Option Token → ℕ
end_of (Some t) = t.span.end
end_of None = 0

abbrev pub if_apart : Option Mark → ℕ → ℕ → Option Mending
if_apart mark at other = if nat_eq at other then None else put_in mark at

-- `(` before a name
abbrev pub opened_at : TokenKind → ℕ → Option Mending
opened_at kinds.Identifier at = Some (mendings.PutIn marks.OpenParen at)
opened_at _ at = None

abbrev pub opened_before : Option Token → Option Mending
opened_before (Some t) = opened_at t.kind t.span.start
opened_before None = None

-- `=` before another one, so that the two compare
abbrev pub doubled : Option Token → Option Mending
doubled (Some t) = Some (mendings.PutIn marks.Equal t.span.start)
doubled None = None

-- space, tab, carriage return or line feed
abbrev pub is_blank_byte : ℕ → Bool
is_blank_byte b = nat_eq b 32 || nat_eq b 9 || nat_eq b 13 || nat_eq b 10

abbrev pub is_blank_gap : Option (List ℕ) → Bool
is_blank_gap (Some gap) = list_all is_blank_byte gap
is_blank_gap None = false

-- white space alone stands between two places
abbrev pub is_blank_between : List ℕ → ℕ → ℕ → Bool
is_blank_between text start end = is_blank_gap (slice_of text (record { start = start; end = end }))

-- the end of a line before `{`, taken away
abbrev pub join : List ℕ → Token → Option Token → Option Mending
join text met None = None
join text met (Some brace) = if is_mark (Some brace.kind) operators.OpenBrace && is_blank_between text met.span.start brace.span.start then Some (mendings.TakeAway met.span.start brace.span.start) else None

abbrev pub is_word_kind : TokenKind → Bool
is_word_kind (kinds.Operator o) = false
is_word_kind _ = true

-- two tokens would become one without what stands between them
abbrev pub would_glue : Option Token → Token → Option Token → Bool
would_glue (Some one) met (Some other) = nat_eq one.span.end met.span.start && nat_eq met.span.end other.span.start && is_word_kind one.kind && is_word_kind other.kind
would_glue (Some one) met None = false
would_glue None met after = false

-- the token met, or the end of the line before `{`, taken away
abbrev pub taken : List ℕ → Option Token → Option Token → Option Token → Option Mending
taken text before None after = None
taken text before (Some met) after =
    if nat_eq met.span.start met.span.end then join text met after
    else if would_glue before met after then None
    else Some (mendings.TakeAway met.span.start met.span.end)

-- the changes that are tried at the token of a number, in this order
abbrev pub candidates : List ℕ → List Token → ℕ → ℕ → List (Option Mending)
candidates text tokens n offset =
    let closing = closing_of (bracket_of tokens (open_before tokens n 0)) in
    let before = token_before tokens n in
    put_in closing (end_of before)
    ∷ if_apart closing offset (end_of before)
    ∷ put_in (Some marks.Comma) (end_of before)
    ∷ put_in (Some marks.OpenBrace) (end_of before)
    ∷ put_in (Some marks.OpenParen) (end_of before)
    ∷ opened_before before
    ∷ taken text before (slice_get tokens n) (slice_get tokens (n + 1))
    ∷ doubled (assign_before tokens n)
    ∷ []
