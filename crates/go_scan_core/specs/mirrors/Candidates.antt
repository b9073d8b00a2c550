-- Keywords and operators by their first characters.
use Rattle.std.specs.Prelude.{ℕ, ◌==◌, if◌then◌else◌, List, [], ◌∷◌}
use Rattle.go_token_core.specs.declared.kind.Keyword.{Keyword}
use Rattle.go_token_core.specs.declared.kind.Keyword.TheVariants.{Break, Case, Chan, Const, Continue, Default, Defer, Else, Fallthrough, For, Func, Go, Goto, If, Import, Interface, Map, Package, Range, Return, Select, Struct, Switch, «Type», Var}
use Rattle.go_token_core.specs.declared.kind.Operator.{Operator}
use Rattle.go_token_core.specs.declared.kind.Operator.TheVariants.{ShiftLeftAssign, ShiftRightAssign, AndNotAssign, Ellipsis, ShiftLeft, ShiftRight, AndNot, PlusAssign, MinusAssign, StarAssign, SlashAssign, PercentAssign, AndAssign, OrAssign, CaretAssign, LogicalAnd, LogicalOr, Arrow, Increment, Decrement, Equal, NotEqual, LessEqual, GreaterEqual, Define, Plus, Minus, Star, Slash, Percent, And, Or, Caret, Less, Greater, Assign, Not, Tilde, OpenParen, OpenBracket, OpenBrace, Comma, Dot, CloseParen, CloseBracket, CloseBrace, Semicolon, Colon}

-- the keywords that begin with the character
unfoldable pub keywords_with : ℕ → List Keyword
keywords_with c =
    if c == 98 then Break ∷ []
    else (if c == 99 then Case ∷ Chan ∷ Const ∷ Continue ∷ []
    else (if c == 100 then Default ∷ Defer ∷ []
    else (if c == 101 then Else ∷ []
    else (if c == 102 then Fallthrough ∷ For ∷ Func ∷ []
    else (if c == 103 then Go ∷ Goto ∷ []
    else (if c == 105 then If ∷ Import ∷ Interface ∷ []
    else (if c == 109 then Map ∷ []
    else (if c == 112 then Package ∷ []
    else (if c == 114 then Range ∷ Return ∷ []
    else (if c == 115 then Select ∷ Struct ∷ Switch ∷ []
    else (if c == 116 then «Type» ∷ []
    else (if c == 118 then Var ∷ []
    else []))))))))))))

-- the operators and punctuation marks that begin with the character, longer ones first
unfoldable pub operators_with : ℕ → List Operator
operators_with c =
    if c == 60 then ShiftLeftAssign ∷ ShiftLeft ∷ Arrow ∷ LessEqual ∷ Less ∷ []
    else (if c == 62 then ShiftRightAssign ∷ ShiftRight ∷ GreaterEqual ∷ Greater ∷ []
    else (if c == 38 then AndNotAssign ∷ AndNot ∷ AndAssign ∷ LogicalAnd ∷ And ∷ []
    else (if c == 46 then Ellipsis ∷ Dot ∷ []
    else (if c == 43 then PlusAssign ∷ Increment ∷ Plus ∷ []
    else (if c == 45 then MinusAssign ∷ Decrement ∷ Minus ∷ []
    else (if c == 42 then StarAssign ∷ Star ∷ []
    else (if c == 47 then SlashAssign ∷ Slash ∷ []
    else (if c == 37 then PercentAssign ∷ Percent ∷ []
    else (if c == 124 then OrAssign ∷ LogicalOr ∷ Or ∷ []
    else (if c == 94 then CaretAssign ∷ Caret ∷ []
    else (if c == 61 then Equal ∷ Assign ∷ []
    else (if c == 33 then NotEqual ∷ Not ∷ []
    else (if c == 58 then Define ∷ Colon ∷ []
    else (if c == 126 then Tilde ∷ []
    else (if c == 40 then OpenParen ∷ []
    else (if c == 91 then OpenBracket ∷ []
    else (if c == 123 then OpenBrace ∷ []
    else (if c == 44 then Comma ∷ []
    else (if c == 41 then CloseParen ∷ []
    else (if c == 93 then CloseBracket ∷ []
    else (if c == 125 then CloseBrace ∷ []
    else (if c == 59 then Semicolon ∷ []
    else []))))))))))))))))))))))
