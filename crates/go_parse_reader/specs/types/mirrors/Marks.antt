-- Reading as a function on lists of terminals: what is in front. Each function reads from the front and hands back what
-- is left.
use denote.Enum.Bare.{sameb}
use Rattle.std.specs.Prelude.{ℕ, zero, suc, Bool, List, [], ◌∷◌, Option, Some, None, Result, Ok, Err, if◌then◌else◌}
use Rattle.go_tree_nodes.specs.text_core.declared.span.Span.{Span}
use Rattle.go_tree_nodes.specs.token_core.contracts.kind.Keyword as keyword_contracts
use Rattle.go_tree_nodes.specs.token_core.contracts.kind.Operator as operator_contracts
use Rattle.go_tree_nodes.specs.token_core.declared.kind.Keyword.{Keyword}
use Rattle.go_tree_nodes.specs.token_core.declared.kind.Operator.{Operator}
use Rattle.go_tree_nodes.specs.token_core.declared.kind.Operator.TheVariants as operator
use Rattle.go_tree_nodes.specs.declared.names.Ident.{Ident}
use Rattle.go_tree_nodes.specs.declared.names.TextLiteral.{TextLiteral}
use Rattle.go_tree_nodes.specs.Terminals.{TerminalKind, Spelled, Number, Quoted, Word, Mark, Terminal}
use Rattle.go_tree_nodes.specs.Trees.{Separated, One, Then}

-- why reading stops: the terminals are no such tree, or it would be too high
pub data Stuck : Type 0 where
  Grammar : Stuck
  TooHigh : Stuck

infixl 10 ◌>>=◌
abbrev pub ◌>>=◌ : {A B : Type 0} → Result A Stuck → (A → Result B Stuck) → Result B Stuck
(Ok x) >>= f = f x
(Err e) >>= f = Err e

-- what was read, and what is left
abbrev pub Reading : Type 0 → Type 0
Reading A = Result (A × List Terminal) Stuck

-- the place of a keyword or a mark in front, and what is left
abbrev pub MarkAhead : Type 0
MarkAhead = Option (Span × List Terminal)

abbrev pub need : {A : Type 0} → Option A → Result A Stuck
need None = Err Grammar
need (Some x) = Ok x

abbrev pub same_operator : Operator → Operator → Bool
same_operator = sameb operator_contracts.the_type

abbrev pub same_keyword : Keyword → Keyword → Bool
same_keyword = sameb keyword_contracts.the_type

abbrev pub mark_in : Operator → TerminalKind → Span → List Terminal → MarkAhead
mark_in want (Mark found) s rest = if same_operator found want then Some (s, rest) else None
mark_in want _ s rest = None

-- this operator or punctuation mark in front
abbrev pub mark_at : Operator → List Terminal → MarkAhead
mark_at want [] = None
mark_at want (t ∷ rest) = mark_in want t.kind t.span rest

abbrev pub keyword_in : Keyword → TerminalKind → Span → List Terminal → MarkAhead
keyword_in want (Word found) s rest = if same_keyword found want then Some (s, rest) else None
keyword_in want _ s rest = None

-- this keyword in front
abbrev pub keyword_at : Keyword → List Terminal → MarkAhead
keyword_at want [] = None
keyword_at want (t ∷ rest) = keyword_in want t.kind t.span rest

abbrev pub name_in : TerminalKind → Span → List Terminal → Option (Ident × List Terminal)
name_in (Spelled x) s rest = Some (record { name = x; span = s }, rest)
name_in _ s rest = None

-- a name in front
abbrev pub name_at : List Terminal → Option (Ident × List Terminal)
name_at [] = None
name_at (t ∷ rest) = name_in t.kind t.span rest

abbrev pub number_ahead : TerminalKind → Span → List Terminal → Option (ℕ × Span × List Terminal)
number_ahead (Number n) s rest = Some (n, s, rest)
number_ahead _ s rest = None

-- the value of an integer literal in front, and its place
abbrev pub number_at : List Terminal → Option (ℕ × Span × List Terminal)
number_at [] = None
number_at (t ∷ rest) = number_ahead t.kind t.span rest

abbrev pub text_in : TerminalKind → Span → List Terminal → Option (TextLiteral × List Terminal)
text_in (Quoted spelled) s rest = Some (record { spelled = spelled; span = s }, rest)
text_in _ s rest = None

-- a string literal in front
abbrev pub text_at : List Terminal → Option (TextLiteral × List Terminal)
text_at [] = None
text_at (t ∷ rest) = text_in t.kind t.span rest

-- the mark in front, if it passes a test, with its place
abbrev pub passing : (Operator → Bool) → Operator → Span → List Terminal → Option (Operator × Span × List Terminal)
passing test o s rest = if test o then Some (o, s, rest) else None

abbrev pub mark_that_in : (Operator → Bool) → TerminalKind → Span → List Terminal → Option (Operator × Span × List Terminal)
mark_that_in test (Mark o) s rest = passing test o s rest
mark_that_in test _ s rest = None

abbrev pub mark_that : (Operator → Bool) → List Terminal → Option (Operator × Span × List Terminal)
mark_that test [] = None
mark_that test (t ∷ rest) = mark_that_in test t.kind t.span rest

-- a mark in front, or none
abbrev pub some_mark : Operator → List Terminal → Option Span × List Terminal
some_mark want ts = taken ts (mark_at want ts)
  where
    taken : List Terminal → MarkAhead → Option Span × List Terminal
    taken ts None = (None, ts)
    taken ts (Some s) = (Some s.0, s.1)

-- the mark between two items of a list, or none before the mark that closes it
abbrev pub end_by : List Terminal → MarkAhead → Reading (Option Span)
end_by ts None = Err Grammar
end_by ts (Some close) = Ok (None, ts)

abbrev pub mark_by : Operator → List Terminal → MarkAhead → Reading (Option Span)
mark_by close ts None = end_by ts (mark_at close ts)
mark_by close ts (Some s) = Ok (Some s.0, s.1)

abbrev pub mark_or_end : Operator → Operator → List Terminal → Reading (Option Span)
mark_or_end between close ts = mark_by close ts (mark_at between ts)

-- lists up to a closing mark, each but the last with a mark behind it

abbrev pub last_by : {A : Type 0} → A → List Terminal → MarkAhead → Reading (List (A × Option Span))
last_by x rest None = Err Grammar
last_by x rest (Some close) = Ok ((x, None) ∷ [], rest)

abbrev pub more_by : {A : Type 0} → (List Terminal → Reading (List (A × Option Span))) → Operator → A → List Terminal → MarkAhead → Reading (List (A × Option Span))
more_by more close x rest None = last_by x rest (mark_at close rest)
more_by more close x rest (Some s) = more s.1 >>= λ y. Ok ((x, Some s.0) ∷ y.0, y.1)

abbrev pub list_by : {A : Type 0} → (List Terminal → Reading A) → (List Terminal → Reading (List (A × Option Span))) → Operator → Operator → List Terminal → MarkAhead → Reading (List (A × Option Span))
list_by item more between close ts None = item ts >>= λ x. more_by more close x.0 x.1 (mark_at between x.1)
list_by item more between close ts (Some s) = Ok ([], ts)

-- the items up to the closing mark, which is left, at most turns of them
unfoldable pub list_go : {A : Type 0} → (List Terminal → Reading A) → Operator → Operator → ℕ → List Terminal → Reading (List (A × Option Span))
list_go item between close zero ts = Err Grammar
list_go item between close (suc turns) ts = list_by item (list_go item between close turns) between close ts (mark_at close ts)

-- names with commas between them

abbrev pub idents_more : (List Terminal → Reading (Separated Ident)) → Ident → List Terminal → MarkAhead → Reading (Separated Ident)
idents_more more x rest None = Ok (One x, rest)
idents_more more x rest (Some comma) = more comma.1 >>= λ y. Ok (Then x comma.0 y.0, y.1)

-- at most turns of them
unfoldable pub idents_go : ℕ → List Terminal → Reading (Separated Ident)
idents_go zero ts = Err Grammar
idents_go (suc turns) ts = need (name_at ts) >>= λ x. idents_more (idents_go turns) x.0 x.1 (mark_at operator.Comma x.1)
