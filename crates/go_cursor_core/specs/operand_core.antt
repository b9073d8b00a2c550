-- What the crates above name of go_operand_core.
pub use Rattle.go_expr_core.specs.operand_core.Conversions as Conversions
pub use Rattle.go_expr_core.specs.operand_core.Operators as Operators
pub use Rattle.go_expr_core.specs.operand_core.Prefixes as Prefixes
pub use Rattle.go_expr_core.specs.operand_core.TypeRules as TypeRules
pub use Rattle.go_expr_core.specs.operand_core.Values as Values
pub use Rattle.go_expr_core.specs.operand_core.declared as declared
