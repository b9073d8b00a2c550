-- What the crates above name of go_operand_core.
pub use Rattle.go_operand_core.specs.Assign as Assign
pub use Rattle.go_operand_core.specs.Conversions as Conversions
pub use Rattle.go_operand_core.specs.Known as Known
pub use Rattle.go_operand_core.proofs.Known as KnownProofs
pub use Rattle.go_operand_core.specs.Operators as Operators
pub use Rattle.go_operand_core.specs.Prefixes as Prefixes
pub use Rattle.go_operand_core.proofs.Relating as Relating
pub use Rattle.go_operand_core.specs.Relations as Relations
pub use Rattle.go_operand_core.specs.TypeRules as TypeRules
pub use Rattle.go_operand_core.specs.Updates as Updates
pub use Rattle.go_operand_core.specs.Values as Values
pub use Rattle.go_operand_core.specs.Variables as Variables
pub use Rattle.go_operand_core.specs.declared as declared
