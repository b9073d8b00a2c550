-- The faults of the parts of an expression, part by part.
--
-- docs/RULES.md, "Expressions: roles, order, faults of parts". The Go specification, "Operators", "Calls", "Composite literals".
use Rattle.std.specs.Prelude.{ℕ, suc, Bool, true, false, List, [], ◌∷◌, ◌++◌, Option, Some, None}
use Rattle.go_denote_core.specs.text_core.declared.span.Span.{Span}
use Rattle.go_denote_core.specs.text_core.declared.rule.Rule.{Rule}
use Rattle.go_tree_nodes.specs.token_core.declared.kind.Operator.{Operator}
use Rattle.go_tree_nodes.specs.Trees.{ExprTree, ItemTrees, Integer, Text, Named, Paren, Unary, Binary, Select, Call, Literal, StructLiteral, NoItems, Item}
use Rattle.go_tree_nodes.specs.Starts.{type_name_start, type_start}
use Rattle.go_denote_core.specs.declared.things.Stand.{Stand}
use Rattle.go_denote_core.specs.declared.things.Stand.TheVariants as stands
use Rattle.go_denote_core.specs.declared.things.Denoted.{Denoted}
use Rattle.go_denote_core.specs.Arguments.{single_rule}
use Rattle.go_denote_core.specs.declared.composite.things.Mode.{Mode}
use Rattle.go_local_core.specs.declared.Fault.{Fault}
use Rattle.go_expr_core.specs.Looks.{Looks}
use Rattle.go_expr_core.specs.Places.{inside, under_place, left_place, is_literal, is_several, start, item_start}
use Rattle.go_expr_core.specs.Operators.{unary_of, binary_of}
use Rattle.go_expr_core.specs.Denoting.{named_type, written_type, denoted, unary_judged}
use Rattle.go_expr_core.specs.Elements.{key_names, all_keys, keys_of, is_mixed, element_type, element_rule, whole_rule, whole_mode}

abbrev pub fault_at : ℕ → Option Rule → List Fault
fault_at offset None = []
fault_at offset (Some rule) = record { offset = offset; rule = rule } ∷ []

-- a member of a list of several is one value
abbrev pub listed_rule : {T S D : Type 0} → Bool → Denoted T S D → Option Rule
listed_rule true d = single_rule d
listed_rule false d = None

abbrev mutual
  pub faults : {T S D P : Type 0} → Looks T S D P → Stand → ExprTree → List Fault
  faults looks p (Integer n span) = []
  faults looks p (Text t) = []
  faults looks p (Named x) = []
  faults looks p (Paren first e last) = faults looks (inside p) e
  faults looks p (Unary op span e) =
      (faults looks (under_place op p) e ++ fault_at (start e) (single_rule (denoted looks (under_place op p) e)))
      ++ fault_at span.start (unary_of looks.types op (is_literal e) (denoted looks (under_place op p) e)).fault
  faults looks p (Binary a op span b) =
      (faults looks stands.«Value» a ++ fault_at (start a) (single_rule (denoted looks stands.«Value» a)))
      ++ ((faults looks stands.«Value» b ++ fault_at (start b) (single_rule (denoted looks stands.«Value» b)))
      ++ fault_at (start a) (binary_of looks.types op (denoted looks stands.«Value» a) (denoted looks stands.«Value» b)).fault)
  faults looks p (Select e dot x) = faults looks (left_place p e) e
  faults looks p (Call e first items last) = faults looks stands.Callee e ++ args_faults looks (is_several items) items
  faults looks p (Literal n first items last) =
      fault_at (type_name_start n) (whole_rule looks (type_name_start n) (named_type looks n) items)
      ++ items_faults looks (named_type looks n) (whole_mode looks (type_name_start n) (named_type looks n) items) (is_mixed (keys_of items)) 0 [] items
  faults looks p (StructLiteral t first items last) =
      looks.written.faults_of (named_type looks) t
      ++ (fault_at (type_start t) (whole_rule looks (type_start t) (written_type looks t) items)
      ++ items_faults looks (written_type looks t) (whole_mode looks (type_start t) (written_type looks t) items) (is_mixed (keys_of items)) 0 [] items)

  -- arguments, in a list of several or not
  pub args_faults : {T S D P : Type 0} → Looks T S D P → Bool → ItemTrees → List Fault
  args_faults looks listed NoItems = []
  args_faults looks listed (Item key e comma rest) =
      (faults looks stands.«Value» e ++ fault_at (start e) (listed_rule listed (denoted looks stands.«Value» e))) ++ args_faults looks listed rest

  -- elements of a literal of a type, behind so many others with these keys
  pub items_faults : {T S D P : Type 0} → Looks T S D P → Option T → Mode → Bool → ℕ → List (List ℕ) → ItemTrees → List Fault
  items_faults looks t mode mixed number before NoItems = []
  items_faults looks t mode mixed number before (Item key e comma rest) =
      ((faults looks stands.«Value» e ++ fault_at (start e) (single_rule (denoted looks stands.«Value» e)))
      ++ fault_at (item_start key e) (element_rule looks (start e) (element_type looks (start e) t mode mixed number (before ++ all_keys rest) key) (denoted looks stands.«Value» e)))
      ++ items_faults looks t mode mixed (suc number) (before ++ key_names key) rest

-- each form

abbrev pub operand_faults : {T S D P : Type 0} → Looks T S D P → Stand → ExprTree → List Fault
operand_faults looks p e = faults looks p e ++ fault_at (start e) (single_rule (denoted looks p e))

abbrev pub unary_faults : {T S D P : Type 0} → Looks T S D P → Stand → Operator → Span → ExprTree → List Fault
unary_faults looks p op span e = operand_faults looks (under_place op p) e ++ fault_at span.start (unary_judged looks p op e).fault

abbrev pub member_faults : {T S D P : Type 0} → Looks T S D P → Bool → ExprTree → List Fault
member_faults looks listed e = faults looks stands.«Value» e ++ fault_at (start e) (listed_rule listed (denoted looks stands.«Value» e))

abbrev pub literal_faults : {T S D P : Type 0} → Looks T S D P → ℕ → Option T → ItemTrees → List Fault
literal_faults looks offset t items =
    fault_at offset (whole_rule looks offset t items) ++ items_faults looks t (whole_mode looks offset t items) (is_mixed (keys_of items)) 0 [] items
