-- What the parts of a type's program values stand for, before it is known what they belong to.
use Rattle.std.specs.Prelude.{ℕ, suc, List, length, Option, Some, None, Ok}
use Rattle.go_tree_nodes.specs.text_core.declared.span.Span.{Span}
use Rattle.go_tree_nodes.specs.declared.names.TextLiteral.{TextLiteral}
use Rattle.go_tree_nodes.specs.declared.types.Fields.{Fields}
use Rattle.go_tree_nodes.specs.declared.types.Fields.TheVariants as declared_fields
use Rattle.go_tree_nodes.specs.declared.types.FieldLine.{FieldLine}
use Rattle.go_tree_nodes.specs.declared.types.MethodLine.{MethodLine, MethodLine'}
use Rattle.go_tree_nodes.specs.declared.names.Ident.{Ident}
use Rattle.go_tree_nodes.specs.declared.types.TypeName.{TypeName}
use Rattle.go_tree_nodes.specs.Trees.{Separated, One, Then, TypeTree, NamedType, SignatureTree, ResultTree}
use Rattle.go_tree_nodes.specs.Heights.{type_height}
use Rattle.go_tree_nodes.specs.TypeShapes.{shape_idents, shape_type, shape_signature}
use Rattle.go_parse_reader.specs.declared.types.entries.Entry.{Entry}
use Rattle.go_tree_nodes.specs.Terminals.{Terminal}
use Rattle.go_tree_nodes.specs.token_core.declared.kind.Operator.{Operator}
use Rattle.go_tree_nodes.specs.token_core.declared.kind.Operator.TheVariants as operator
use Rattle.go_parse_reader.specs.types.mirrors.Marks.{◌>>=◌, Reading, mark_at, mark_or_end, list_go}
use Rattle.go_parse_reader.specs.types.mirrors.TypeReading.{EntryTree, params_at, results_by, LineTree, NamedLine, EmbeddedLine, paren_by}

abbrev pub entry_of : Entry → EntryTree × Option Span
entry_of e = ((e.name, shape_type e.type_expr), e.comma)

abbrev pub line_tree : Fields → Option TextLiteral → LineTree
line_tree (declared_fields.Named xs t) tag = NamedLine (shape_idents xs) (shape_type t) tag
line_tree (declared_fields.Embedded star n) tag = EmbeddedLine star n tag

abbrev pub line_of : FieldLine → LineTree × Option Span
line_of l = (line_tree l.fields l.tag, l.semicolon)

abbrev pub method_of : MethodLine → (Ident × SignatureTree) × Option Span
method_of (MethodLine' x signature semicolon) = ((x, shape_signature signature), semicolon)

-- all items up to the closing mark
abbrev pub list_all : {A : Type 0} → (List Terminal → Reading A) → Operator → Operator → List Terminal → Reading (List (A × Option Span))
list_all item between close ts = list_go item between close (suc (length ts)) ts

-- what was read, with the mark between two items behind it, or none before the closing mark
abbrev pub with_mark : {A : Type 0} → A → Reading (Option Span) → Reading (A × Option Span)
with_mark x r = r >>= λ s. Ok ((x, s.0), s.1)

abbrev pub then_mark : {A : Type 0} → Operator → Operator → Reading A → Reading (A × Option Span)
then_mark between close r = r >>= λ x. with_mark x.0 (mark_or_end between close x.1)

-- the type in front as an entry, whose name is read
abbrev pub typed_at : (List Terminal → Reading TypeTree) → Option Ident → List Terminal → Reading EntryTree
typed_at type x ts = type ts >>= λ y. Ok ((x, y.0), y.1)

-- a type behind a parenthesis, and the closing one
abbrev pub paren_at : (List Terminal → Reading TypeTree) → Span → List Terminal → Reading TypeTree
paren_at type first ts = type ts >>= λ t. paren_by first t.0 (mark_at operator.CloseParen t.1)

-- a list of results behind its parenthesis
abbrev pub listed_at : (List Terminal → Reading TypeTree) → Span → List Terminal → Reading ResultTree
listed_at type first ts = params_at type ts >>= λ p. results_by first p.0 (mark_at operator.CloseParen p.1)

-- names with a comma and one more behind them
abbrev pub last_behind : Separated Ident → Span → Ident → Separated Ident
last_behind (One y) s x = Then y s (One x)
last_behind (Then y comma ys) s x = Then y comma (last_behind ys s x)

-- the names so far, with the comma behind them, and one more
abbrev pub with_last : Option (Separated Ident × Span) → Ident → Separated Ident
with_last None x = One x
with_last (Some (xs, s)) x = last_behind xs s x

-- how high the types of one line's fields are
abbrev pub field_height : Fields → ℕ
field_height (declared_fields.Named xs t) = type_height (shape_type t)
field_height (declared_fields.Embedded star n) = 1
