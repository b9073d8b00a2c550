-- Reading types, parameter lists and signatures.
use Rattle.std.specs.Prelude.{ℕ, zero, suc, Bool, true, false, ◌||◌, List, [], ◌∷◌, length, Option, Some, None, Ok, Err, is_some, if◌then◌else◌}
use Rattle.go_tree_nodes.specs.text_core.declared.span.Span.{Span}
use Rattle.go_tree_nodes.specs.token_core.declared.kind.Keyword.TheVariants as keyword
use Rattle.go_tree_nodes.specs.token_core.declared.kind.Operator.TheVariants as operator
use Rattle.go_tree_nodes.specs.declared.names.Ident.{Ident}
use Rattle.go_tree_nodes.specs.declared.names.TextLiteral.{TextLiteral}
use Rattle.go_tree_nodes.specs.declared.types.TypeName.{TypeName}
use Rattle.go_tree_nodes.specs.declared.types.TypeName.TheVariants as type_name
use Rattle.go_tree_nodes.specs.Terminals.{TerminalKind, Spelled, Terminal}
use Rattle.go_tree_nodes.specs.Trees.{Separated, One, Then, TypeTree, FieldTrees, MethodTrees, SignatureTree, ResultTree, ParamTrees, NamedType, Pointer, ParenType, Struct, Interface, NoFields, NamedFields, EmbeddedField, NoMethods, Method, Signed, NoResult, OneResult, Results, NoParams, Param}
use Rattle.go_tree_nodes.specs.Naming.{plain_name}
use Rattle.go_parse_reader.specs.types.mirrors.Marks.{Grammar, TooHigh, ◌>>=◌, Reading, MarkAhead, need, mark_at, keyword_at, name_at, text_at, list_go, idents_go}

-- the name of a type

abbrev pub qualified : Ident → Span → List Terminal → Option (Ident × List Terminal) → Reading TypeName
qualified x dot rest None = Err Grammar
qualified x dot rest (Some y) = Ok (type_name.Qualified x dot y.0, y.1)

abbrev pub type_name_from : Ident → List Terminal → MarkAhead → Reading TypeName
type_name_from x rest None = Ok (type_name.Plain x, rest)
type_name_from x rest (Some dot) = qualified x dot.0 dot.1 (name_at dot.1)

abbrev pub type_name_at : List Terminal → Reading TypeName
type_name_at ts = need (name_at ts) >>= λ x. type_name_from x.0 x.1 (mark_at operator.Dot x.1)

-- parameters: entries, each a type or a name and a type

abbrev pub EntryTree : Type 0
EntryTree = Option Ident × TypeTree

abbrev pub begins_in : TerminalKind → List Terminal → Bool
begins_in (Spelled x) ts = true
begins_in _ ts = is_some (mark_at operator.Star ts) || is_some (mark_at operator.OpenParen ts) || is_some (keyword_at keyword.Struct ts) || is_some (keyword_at keyword.Interface ts)

-- a type may begin here
abbrev pub begins_type : List Terminal → Bool
begins_type [] = false
begins_type (t ∷ rest) = begins_in t.kind (t ∷ rest)

abbrev pub entry_if : (List Terminal → Reading TypeTree) → List Terminal → Ident → List Terminal → Bool → Reading EntryTree
entry_if type ts x rest true = type rest >>= λ y. Ok ((Some x, y.0), y.1)
entry_if type ts x rest false = type ts >>= λ y. Ok ((None, y.0), y.1)

abbrev pub entry_by : (List Terminal → Reading TypeTree) → List Terminal → Option (Ident × List Terminal) → Reading EntryTree
entry_by type ts None = type ts >>= λ y. Ok ((None, y.0), y.1)
entry_by type ts (Some x) = entry_if type ts x.0 x.1 (begins_type x.1)

-- a name before what may begin a type is the name of a parameter
abbrev pub entry_at : (List Terminal → Reading TypeTree) → List Terminal → Reading EntryTree
entry_at type ts = entry_by type ts (name_at ts)

abbrev pub has_name : List (EntryTree × Option Span) → Bool
has_name [] = false
has_name (((None, t), comma) ∷ rest) = has_name rest
has_name (((Some x, t), comma) ∷ rest) = true

-- without any name, all entries are types
abbrev pub as_types : List (EntryTree × Option Span) → ParamTrees
as_types [] = NoParams
as_types ((e, comma) ∷ rest) = Param None e.1 comma (as_types rest)

abbrev pub group_one : Ident → TypeTree → Option Span → Option ParamTrees → Option ParamTrees
group_one x t comma None = None
group_one x t comma (Some rest) = Some (Param (Some (One x)) t comma rest)

abbrev pub group_more : Ident → Span → Option ParamTrees → Option ParamTrees
group_more x comma (Some (Param (Some xs) t s rest)) = Some (Param (Some (Then x comma xs)) t s rest)
group_more x comma _ = None

abbrev pub group_next : Option Ident → Option Span → Option ParamTrees → Option ParamTrees
group_next (Some x) (Some comma) rest = group_more x comma rest
group_next _ _ rest = None

-- with a name, an entry that is a name alone belongs to the group of the next one
abbrev pub as_groups : List (EntryTree × Option Span) → Option ParamTrees
as_groups [] = Some NoParams
as_groups (((Some x, t), comma) ∷ rest) = group_one x t comma (as_groups rest)
as_groups (((None, t), comma) ∷ rest) = group_next (plain_name t) comma (as_groups rest)

abbrev pub as_params : List (EntryTree × Option Span) → Option ParamTrees
as_params es = if has_name es then as_groups es else Some (as_types es)

abbrev pub params_by : List (EntryTree × Option Span) × List Terminal → Reading ParamTrees
params_by x = need (as_params x.0) >>= λ p. Ok (p, x.1)

-- the parameters up to the closing parenthesis, which is left
abbrev pub params_at : (List Terminal → Reading TypeTree) → List Terminal → Reading ParamTrees
params_at type ts = list_go (entry_at type) operator.Comma operator.CloseParen (suc (length ts)) ts >>= params_by

-- results and signatures

abbrev pub results_by : Span → ParamTrees → MarkAhead → Reading ResultTree
results_by first ps None = Err Grammar
results_by first ps (Some last) = Ok (Results first ps last.0, last.1)

abbrev pub one_result : (List Terminal → Reading TypeTree) → List Terminal → Bool → Reading ResultTree
one_result type ts true = type ts >>= λ y. Ok (OneResult y.0, y.1)
one_result type ts false = Ok (NoResult, ts)

abbrev pub result_by : (List Terminal → Reading TypeTree) → List Terminal → MarkAhead → Reading ResultTree
result_by type ts None = one_result type ts (begins_type ts)
result_by type ts (Some first) = params_at type first.1 >>= λ p. results_by first.0 p.0 (mark_at operator.CloseParen p.1)

-- a result that begins with a parenthesis is a list
abbrev pub result_at : (List Terminal → Reading TypeTree) → List Terminal → Reading ResultTree
result_at type ts = result_by type ts (mark_at operator.OpenParen ts)

abbrev pub signature_at : (List Terminal → Reading TypeTree) → List Terminal → Reading SignatureTree
signature_at type ts = do
  first ← need (mark_at operator.OpenParen ts)
  params ← params_at type first.1
  last ← need (mark_at operator.CloseParen params.1)
  result ← result_at type last.1
  Ok (Signed first.0 params.0 last.0 result.0, result.1)

-- struct types

abbrev pub tag_by : List Terminal → Option (TextLiteral × List Terminal) → Option TextLiteral × List Terminal
tag_by ts None = (None, ts)
tag_by ts (Some t) = (Some t.0, t.1)

-- a line of a struct type, before it is known what stands behind it
pub data LineTree : Type 0 where
  NamedLine : Separated Ident → TypeTree → Option TextLiteral → LineTree
  EmbeddedLine : Option Span → TypeName → Option TextLiteral → LineTree

abbrev pub tagged : (Option TextLiteral → LineTree) → List Terminal → Reading LineTree
tagged line ts = let t = tag_by ts (text_at ts) in Ok (line t.0, t.1)

abbrev pub embedded_by : Option Span → TypeTree → List Terminal → Reading LineTree
embedded_by star (NamedType n) rest = tagged (EmbeddedLine star n) rest
embedded_by star _ rest = Err Grammar

-- an embedded type is a name
abbrev pub embedded : (List Terminal → Reading TypeTree) → Option Span → List Terminal → Reading LineTree
embedded type star ts = type ts >>= λ t. embedded_by star t.0 t.1

-- what may stand behind an embedded field: a dot, a tag, a semicolon or the closing brace
abbrev pub ends_embedded : List Terminal → Bool
ends_embedded ts = is_some (mark_at operator.Dot ts) || is_some (text_at ts) || is_some (mark_at operator.Semicolon ts) || is_some (mark_at operator.CloseBrace ts)

abbrev pub named_line : (List Terminal → Reading TypeTree) → List Terminal → Reading LineTree
named_line type ts = do
  xs ← idents_go (suc (length ts)) ts
  t ← type xs.1
  tagged (NamedLine xs.0 t.0) t.1

abbrev pub line_of_name : (List Terminal → Reading TypeTree) → List Terminal → Bool → Reading LineTree
line_of_name type ts true = embedded type None ts
line_of_name type ts false = named_line type ts

abbrev pub line_by_name : (List Terminal → Reading TypeTree) → List Terminal → Option (Ident × List Terminal) → Reading LineTree
line_by_name type ts None = Err Grammar
line_by_name type ts (Some x) = line_of_name type ts (ends_embedded x.1)

abbrev pub line_by_star : (List Terminal → Reading TypeTree) → List Terminal → MarkAhead → Reading LineTree
line_by_star type ts None = line_by_name type ts (name_at ts)
line_by_star type ts (Some star) = embedded type (Some star.0) star.1

abbrev pub line_at : (List Terminal → Reading TypeTree) → List Terminal → Reading LineTree
line_at type ts = line_by_star type ts (mark_at operator.Star ts)

abbrev pub with_line : LineTree → Option Span → FieldTrees → FieldTrees
with_line (NamedLine xs t tag) s rest = NamedFields xs t tag s rest
with_line (EmbeddedLine star n tag) s rest = EmbeddedField star n tag s rest

abbrev pub as_fields : List (LineTree × Option Span) → FieldTrees
as_fields [] = NoFields
as_fields (l ∷ ls) = with_line l.0 l.1 (as_fields ls)

abbrev pub struct_by : Span → Span → FieldTrees → MarkAhead → Reading TypeTree
struct_by k first fs None = Err Grammar
struct_by k first fs (Some last) = Ok (Struct k first fs last.0, last.1)

abbrev pub struct_at : (List Terminal → Reading TypeTree) → Span → List Terminal → Reading TypeTree
struct_at type k ts = do
  first ← need (mark_at operator.OpenBrace ts)
  ls ← list_go (line_at type) operator.Semicolon operator.CloseBrace (suc (length first.1)) first.1
  struct_by k first.0 (as_fields ls.0) (mark_at operator.CloseBrace ls.1)

-- interface types

abbrev pub method_at : (List Terminal → Reading TypeTree) → List Terminal → Reading (Ident × SignatureTree)
method_at type ts = need (name_at ts) >>= λ x. (signature_at type x.1 >>= λ y. Ok ((x.0, y.0), y.1))

abbrev pub as_methods : List ((Ident × SignatureTree) × Option Span) → MethodTrees
as_methods [] = NoMethods
as_methods (m ∷ ms) = Method m.0.0 m.0.1 m.1 (as_methods ms)

abbrev pub interface_by : Span → Span → MethodTrees → MarkAhead → Reading TypeTree
interface_by k first ms None = Err Grammar
interface_by k first ms (Some last) = Ok (Interface k first ms last.0, last.1)

abbrev pub interface_at : (List Terminal → Reading TypeTree) → Span → List Terminal → Reading TypeTree
interface_at type k ts = do
  first ← need (mark_at operator.OpenBrace ts)
  ms ← list_go (method_at type) operator.Semicolon operator.CloseBrace (suc (length first.1)) first.1
  interface_by k first.0 (as_methods ms.0) (mark_at operator.CloseBrace ms.1)

-- types

abbrev pub named_at : List Terminal → Reading TypeTree
named_at ts = type_name_at ts >>= λ n. Ok (NamedType n.0, n.1)

abbrev pub by_interface : (List Terminal → Reading TypeTree) → List Terminal → MarkAhead → Reading TypeTree
by_interface inner ts None = named_at ts
by_interface inner ts (Some k) = interface_at inner k.0 k.1

abbrev pub by_struct : (List Terminal → Reading TypeTree) → List Terminal → MarkAhead → Reading TypeTree
by_struct inner ts None = by_interface inner ts (keyword_at keyword.Interface ts)
by_struct inner ts (Some k) = struct_at inner k.0 k.1

abbrev pub paren_by : Span → TypeTree → MarkAhead → Reading TypeTree
paren_by first t None = Err Grammar
paren_by first t (Some last) = Ok (ParenType first t last.0, last.1)

abbrev pub by_paren : (List Terminal → Reading TypeTree) → List Terminal → MarkAhead → Reading TypeTree
by_paren inner ts None = by_struct inner ts (keyword_at keyword.Struct ts)
by_paren inner ts (Some first) = inner first.1 >>= λ t. paren_by first.0 t.0 (mark_at operator.CloseParen t.1)

abbrev pub by_star : (List Terminal → Reading TypeTree) → List Terminal → MarkAhead → Reading TypeTree
by_star inner ts None = by_paren inner ts (mark_at operator.OpenParen ts)
by_star inner ts (Some star) = inner star.1 >>= λ t. Ok (Pointer star.0 t.0, t.1)

-- a type, from what its parts are read by
abbrev pub type_by : (List Terminal → Reading TypeTree) → List Terminal → Reading TypeTree
type_by inner ts = by_star inner ts (mark_at operator.Star ts)

-- the type in front, at most as high as budget
unfoldable pub type_at : ℕ → List Terminal → Reading TypeTree
type_at zero ts = Err TooHigh
type_at (suc b) ts = type_by (type_at b) ts

-- the name of a type in front as a type, at most as high as budget
abbrev pub named_type_at : ℕ → List Terminal → Reading TypeTree
named_type_at zero ts = Err TooHigh
named_type_at (suc b) ts = named_at ts
