-- What an expression denotes: one recursion over its tree.
--
-- docs/RULES.md, "Expressions: roles, order, faults of parts". The Go specification, "Expressions".
use Rattle.std.specs.Prelude.{true, false, List, [], ◌∷◌, Option, Some}
use Rattle.go_tree_nodes.specs.token_core.declared.kind.Operator.{Operator}
use Rattle.go_constant_core.specs.declared.values.Constant.{Constant}
use Rattle.go_constant_core.specs.declared.values.Constant.TheVariants as constants
use Rattle.go_constant_core.specs.Values.{natural}
use Rattle.go_tree_nodes.specs.declared.names.Ident.{Ident}
use Rattle.go_tree_nodes.specs.declared.names.TextLiteral.{TextLiteral}
use Rattle.go_tree_nodes.specs.declared.types.TypeName.{TypeName}
use Rattle.go_tree_nodes.specs.declared.types.TypeName.TheVariants as type_names
use Rattle.go_tree_nodes.specs.declared.usage.Usage.{Usage}
use Rattle.go_tree_nodes.specs.declared.usage.Usage.TheVariants as usages
use Rattle.go_tree_nodes.specs.Terminals.{value_of}
use Rattle.go_tree_nodes.specs.Trees.{TypeTree, ExprTree, ItemTrees, Integer, Text, Named, Paren, Unary, Binary, Select, Call, Literal, StructLiteral, NoItems, Item}
use Rattle.go_denote_core.specs.text_core.declared.span.Span.{Span}
use Rattle.go_denote_core.specs.operand_core.declared.types.ValueType.{ValueType}
use Rattle.go_denote_core.specs.operand_core.declared.types.ValueType.TheVariants as value_types
use Rattle.go_denote_core.specs.declared.things.Stand.{Stand}
use Rattle.go_denote_core.specs.declared.things.Stand.TheVariants as stands
use Rattle.go_denote_core.specs.declared.things.Dot.{Dot}
use Rattle.go_denote_core.specs.declared.things.Denoted.{Denoted}
use Rattle.go_denote_core.specs.declared.things.Denoted.TheVariants as denotes
use Rattle.go_denote_core.specs.declared.things.Answer.{Answer}
use Rattle.go_denote_core.specs.Answers.{name_answer}
use Rattle.go_denote_core.specs.Selectors.{dot_of, selector_answer}
use Rattle.go_denote_core.specs.Arguments.{arguments_of, is_free}
use Rattle.go_denote_core.specs.Calls.{call_answer}
use Rattle.go_denote_core.specs.composite.Literals.{literal_type, literal_denotes}
use Rattle.go_expr_core.specs.declared.things.Judged.{Judged}
use Rattle.go_expr_core.specs.Looks.{Looks, look_of_place}
use Rattle.go_expr_core.specs.Places.{inside, under_place, left_place, whole, is_name, is_literal, is_lone_call}
use Rattle.go_expr_core.specs.Operators.{unary_of, binary_of}

-- an untyped constant
abbrev pub untyped_constant : {T S D : Type 0} → ValueType T → Constant → Denoted T S D
untyped_constant t c = denotes.«Value» (record { value_type = t; constant = Some c; addressable = false })

abbrev pub text_denotes : {T S D : Type 0} → TextLiteral → Denoted T S D
text_denotes t = untyped_constant value_types.UntypedText (constants.Text (value_of t))

-- an identifier where it stands
abbrev pub ident_answer : {T S D P : Type 0} → Looks T S D P → Stand → Ident → Answer T S D P
ident_answer looks p x = name_answer (look_of_place looks x.span.start) p x.name

-- an identifier behind a dot
abbrev pub behind_answer : {T S D P : Type 0} → Looks T S D P → Usage → Dot T D → Ident → Answer T S D P
behind_answer looks u dot x = selector_answer (look_of_place looks x.span.start) u dot x.name

-- the name of a type, each identifier where it stands
abbrev pub type_name_answer : {T S D P : Type 0} → Looks T S D P → TypeName → Answer T S D P
type_name_answer looks (type_names.Plain x) = ident_answer looks stands.«Type» x
type_name_answer looks (type_names.Qualified p dot x) =
    selector_answer (look_of_place looks x.span.start) usages.«Type» (dot_of true (ident_answer looks stands.TypeDot p).denoted) x.name

-- the type that the name of a type denotes
abbrev pub named_type : {T S D P : Type 0} → Looks T S D P → TypeName → Option T
named_type looks n = literal_type (type_name_answer looks n).denoted

-- a struct type that is written out
abbrev pub written_type : {T S D P : Type 0} → Looks T S D P → TypeTree → Option T
written_type looks t = looks.written.type_of (named_type looks) t

abbrev mutual
  pub denoted : {T S D P : Type 0} → Looks T S D P → Stand → ExprTree → Denoted T S D
  denoted looks p (Integer n span) = untyped_constant value_types.UntypedInt (natural n)
  denoted looks p (Text t) = text_denotes t
  denoted looks p (Named x) = (ident_answer looks p x).denoted
  denoted looks p (Paren first e last) = denoted looks (inside p) e
  denoted looks p (Unary op span e) = (unary_of looks.types op (is_literal e) (denoted looks (under_place op p) e)).denoted
  denoted looks p (Binary a op span b) = (binary_of looks.types op (denoted looks stands.«Value» a) (denoted looks stands.«Value» b)).denoted
  denoted looks p (Select e dot x) = (selector_answer (look_of_place looks x.span.start) (whole p) (dot_of (is_name e) (denoted looks (left_place p e) e)) x.name).denoted
  denoted looks p (Call e first items last) =
      (call_answer (look_of_place looks first.start) (denoted looks stands.Callee e) (is_free (is_lone_call items) (denoted_items looks items)) (arguments_of (look_of_place looks first.start) (denoted_items looks items))).denoted
  denoted looks p (Literal n first items last) = literal_denotes (named_type looks n)
  denoted looks p (StructLiteral t first items last) = literal_denotes (written_type looks t)

  -- arguments
  pub denoted_items : {T S D P : Type 0} → Looks T S D P → ItemTrees → List (Denoted T S D)
  denoted_items looks NoItems = []
  denoted_items looks (Item key e comma rest) = denoted looks stands.«Value» e ∷ denoted_items looks rest

-- each form with its answer

abbrev pub unary_judged : {T S D P : Type 0} → Looks T S D P → Stand → Operator → ExprTree → Judged T S D
unary_judged looks p op e = unary_of looks.types op (is_literal e) (denoted looks (under_place op p) e)

abbrev pub binary_judged : {T S D P : Type 0} → Looks T S D P → Operator → ExprTree → ExprTree → Judged T S D
binary_judged looks op a b = binary_of looks.types op (denoted looks stands.«Value» a) (denoted looks stands.«Value» b)

abbrev pub select_answer : {T S D P : Type 0} → Looks T S D P → Stand → ExprTree → Ident → Answer T S D P
select_answer looks p e x = selector_answer (look_of_place looks x.span.start) (whole p) (dot_of (is_name e) (denoted looks (left_place p e) e)) x.name

-- what a call has, by what is called
abbrev pub answer_by : {T S D P : Type 0} → Looks T S D P → Denoted T S D → Span → ItemTrees → Answer T S D P
answer_by looks callee first items =
    call_answer (look_of_place looks first.start) callee (is_free (is_lone_call items) (denoted_items looks items)) (arguments_of (look_of_place looks first.start) (denoted_items looks items))

abbrev pub called_answer : {T S D P : Type 0} → Looks T S D P → ExprTree → Span → ItemTrees → Answer T S D P
called_answer looks e first items = answer_by looks (denoted looks stands.Callee e) first items
