-- What expressions left of `=` are as targets.
--
-- docs/RULES.md, "Assignments, declarations, returns, statements". The Go specification, "Assignment statements".
use Rattle.std.specs.Prelude.{Bool, true, false}
use Rattle.go_expr_core.specs.operand_core.declared.types.ValueType.{ValueType}
use Rattle.go_expr_core.specs.operand_core.declared.types.ValueType.TheVariants as value_types
use Rattle.go_expr_core.specs.denote_core.declared.things.Denoted.{Denoted}
use Rattle.go_expr_core.specs.denote_core.declared.things.Denoted.TheVariants as denotes
use Rattle.go_stmt_core.specs.declared.statement.targets.Target.{Target}
use Rattle.go_stmt_core.specs.declared.statement.targets.Target.TheVariants as targets

-- a value that is addressable; each of these has a type
abbrev pub target_of_value : {T : Type 0} → Bool → ValueType T → Target T
target_of_value false v = targets.Fixed
target_of_value true (value_types.Typed t) = targets.Variable t
target_of_value true value_types.UntypedInt = targets.Fixed
target_of_value true value_types.UntypedText = targets.Fixed
target_of_value true value_types.UntypedBool = targets.Fixed
target_of_value true value_types.Nil = targets.Fixed

-- what is no single value is a bad left side where it stands alone; in a list of several it is refused by a rule of its own
abbrev pub no_single_value : {T : Type 0} → Bool → Target T
no_single_value true = targets.Fixed
no_single_value false = targets.Typeless

abbrev pub target_of : {T S D : Type 0} → Denoted T S D → Bool → Target T
target_of (denotes.«Value» operand) is_alone = target_of_value operand.addressable operand.value_type
target_of (denotes.Several s) is_alone = no_single_value is_alone
target_of denotes.Nothing is_alone = no_single_value is_alone
target_of denotes.Refused is_alone = targets.Typeless
target_of denotes.Typeless is_alone = targets.Typeless
target_of (denotes.«Package» d) is_alone = targets.Typeless
target_of (denotes.«Type» d t) is_alone = targets.Typeless
target_of (denotes.Func d s) is_alone = targets.Typeless
target_of (denotes.Builtin d b) is_alone = targets.Typeless
