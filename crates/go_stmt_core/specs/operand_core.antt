-- What the crates above name of go_operand_core.
pub use Rattle.go_expr_core.specs.operand_core.TypeRules as TypeRules
pub use Rattle.go_expr_core.specs.operand_core.declared as declared
