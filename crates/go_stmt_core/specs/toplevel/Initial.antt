-- Initialisers of package variables, which are to be constant.
--
-- docs/RULES.md, "Declarations outside functions". The Go specification, "Package initialization", "Constant expressions".
use Rattle.std.specs.Prelude.{List, [], ◌++◌, Option, Some, None}
use Rattle.go_constant_core.specs.text_core.declared.span.Span.{Span}
use Rattle.go_constant_core.specs.text_core.declared.rule.Rule.{Rule}
use Rattle.go_constant_core.specs.text_core.declared.rule.Rule.TheVariants.{X1}
use Rattle.go_constant_core.specs.declared.values.Constant.{Constant}
use Rattle.go_tree_nodes.specs.declared.decls.ValueKind.{ValueKind}
use Rattle.go_tree_nodes.specs.declared.decls.ValueKind.TheVariants as kinds
use Rattle.go_tree_nodes.specs.Trees.{Separated, One, Then, ExprTree, ValueSpecTree}
use Rattle.go_expr_core.specs.denote_core.declared.things.Stand.TheVariants as stands
use Rattle.go_expr_core.specs.denote_core.declared.things.Denoted.{Denoted}
use Rattle.go_expr_core.specs.denote_core.declared.things.Denoted.TheVariants as denotes
use Rattle.go_expr_core.specs.local_core.declared.Fault.{Fault}
use Rattle.go_expr_core.specs.Looks.{Looks}
use Rattle.go_expr_core.specs.Places.{start}
use Rattle.go_expr_core.specs.Denoting.{denoted}
use Rattle.go_expr_core.specs.Faults.{fault_at}

abbrev pub unless_constant : Option Constant → Option Rule
unless_constant None = Some X1
unless_constant (Some k) = None

-- what is no constant, what is refused included
abbrev pub initial_rule : {T S D : Type 0} → Denoted T S D → Option Rule
initial_rule (denotes.«Value» operand) = unless_constant operand.constant
initial_rule denotes.Refused = Some X1
initial_rule denotes.Typeless = Some X1
initial_rule (denotes.«Package» d) = Some X1
initial_rule (denotes.«Type» d t) = Some X1
initial_rule (denotes.Several s) = Some X1
initial_rule denotes.Nothing = Some X1
initial_rule (denotes.Func d s) = Some X1
initial_rule (denotes.Builtin d b) = Some X1

-- an initialiser
abbrev pub expr_initial_faults : {T S D P : Type 0} → Looks T S D P → ExprTree → List Fault
expr_initial_faults looks e = fault_at (start e) (initial_rule (denoted looks stands.«Value» e))

-- each initialiser of a list
abbrev pub list_initial_faults : {T S D P : Type 0} → Looks T S D P → Separated ExprTree → List Fault
list_initial_faults looks (One e) = expr_initial_faults looks e
list_initial_faults looks (Then e comma more) = expr_initial_faults looks e ++ list_initial_faults looks more

abbrev pub values_initial_faults : {T S D P : Type 0} → Looks T S D P → Option (Span × Separated ExprTree) → List Fault
values_initial_faults looks None = []
values_initial_faults looks (Some v) = list_initial_faults looks v.1

-- constants are asked for by their own rule
abbrev pub initial_faults : {T S D P : Type 0} → Looks T S D P → ValueKind → ValueSpecTree → List Fault
initial_faults looks kinds.Const v = []
initial_faults looks kinds.Var v = values_initial_faults looks v.values
