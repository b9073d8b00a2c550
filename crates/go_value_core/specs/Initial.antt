-- What a name of a specification of constants or variables stands for, by what its initialiser denotes, and which names it needs for that.
--
-- docs/RULES.md, "Constants and variables of a package". The Go specification, "Constant declarations", "Variable declarations",
-- "Package initialization".
use Rattle.std.specs.Prelude.{ℕ, List, [], ◌∷◌, ◌==◌, length, map, slice_get, slice_index_or, Option, Some, None, if◌then◌else◌}
use Rattle.go_constant_core.specs.text_core.declared.span.Span.{Span}
use Rattle.go_tree_nodes.specs.declared.names.Ident.{Ident}
use Rattle.go_tree_nodes.specs.declared.decls.ValueKind.{ValueKind}
use Rattle.go_tree_nodes.specs.declared.decls.ValueKind.TheVariants as kinds
use Rattle.go_tree_nodes.specs.Trees.{Separated, One, Then, ExprTree, ValueSpecTree}
use Rattle.go_names_core.specs.local_core.Outline.{idents}
use Rattle.go_stmt_core.specs.operand_core.declared.types.Operand.{Operand}
use Rattle.go_stmt_core.specs.operand_core.TypeRules.{TypeRules}
use Rattle.go_stmt_core.specs.denote_core.declared.things.Argument.{Argument}
use Rattle.go_stmt_core.specs.statement.Declarations.{initial_types}
use Rattle.go_stmt_core.specs.expr_core.Looks.{Looks}
use Rattle.go_stmt_core.specs.expr_core.Needed.{needed_idents}
pub use Rattle.go_stmt_core.specs.piece.Types.{some_written_type}
pub use Rattle.go_stmt_core.specs.piece.Values.{variable, list_start}
pub use Rattle.go_stmt_core.specs.piece.Specifications.{constant_value, constant_values, values_given}

-- a specification

-- how many names
abbrev pub spec_name_count : ValueSpecTree → ℕ
spec_name_count v = length (idents v.names)

-- what the names stand for

-- each name of a specification, by the type that is written and the values that are given; what a variable is given that is no constant
-- is refused
abbrev pub values_of : {T : Type 0} → TypeRules T → ValueKind → Option (Option T) → ℕ → List (Argument T) → List (Option (Operand T))
values_of rules kinds.Const written n given = constant_values rules written n given
values_of rules kinds.Var written n given = map variable (initial_types rules written n given)

abbrev pub initialiser_values : {T S D P : Type 0} → Looks T S D P → ValueKind → ValueSpecTree → List (Option (Operand T))
initialiser_values looks kind v = values_of looks.types kind (some_written_type looks v.type_expr) (spec_name_count v) (values_given looks v.values)

-- the name of a number, from 0: none where it has no type
abbrev pub initial : {T S D P : Type 0} → Looks T S D P → ValueKind → ValueSpecTree → ℕ → Option (Operand T)
initial looks kind v i = slice_index_or (initialiser_values looks kind v) i None

-- what a name needs

-- the expressions of a list
abbrev pub exprs : Separated ExprTree → List ExprTree
exprs (One e) = e ∷ []
exprs (Then e comma more) = e ∷ exprs more

-- the expression of the i-th of n names: the only one is that of each; of several each name has its own, if there are as many
abbrev pub expr_in : ℕ → ℕ → Separated ExprTree → Option ExprTree
expr_in n i (One e) = Some e
expr_in n i (Then e comma more) = if n == length (exprs (Then e comma more)) then slice_get (exprs (Then e comma more)) i else None

abbrev pub expr_behind : ℕ → ℕ → Option (Span × Separated ExprTree) → Option ExprTree
expr_behind n i None = None
expr_behind n i (Some es) = expr_in n i es.1

abbrev pub expr_of : ValueSpecTree → ℕ → Option ExprTree
expr_of v i = expr_behind (spec_name_count v) i v.values

abbrev pub some_needed : Option ExprTree → List Ident
some_needed None = []
some_needed (Some e) = needed_idents e

-- the identifiers that the i-th name needs: those of its expression but for those in the elements of literals
abbrev pub initial_idents : ValueSpecTree → ℕ → List Ident
initial_idents v i = some_needed (expr_of v i)
