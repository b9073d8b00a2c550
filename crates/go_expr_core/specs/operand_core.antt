-- What the crates above name of go_operand_core.
pub use Rattle.go_denote_core.specs.operand_core.Assign as Assign
pub use Rattle.go_denote_core.specs.operand_core.Conversions as Conversions
pub use Rattle.go_denote_core.specs.operand_core.Known as Known
pub use Rattle.go_denote_core.specs.operand_core.KnownProofs as KnownProofs
pub use Rattle.go_denote_core.specs.operand_core.Operators as Operators
pub use Rattle.go_denote_core.specs.operand_core.Prefixes as Prefixes
pub use Rattle.go_denote_core.specs.operand_core.Relating as Relating
pub use Rattle.go_denote_core.specs.operand_core.Relations as Relations
pub use Rattle.go_denote_core.specs.operand_core.TypeRules as TypeRules
pub use Rattle.go_denote_core.specs.operand_core.Updates as Updates
pub use Rattle.go_denote_core.specs.operand_core.Values as Values
pub use Rattle.go_denote_core.specs.operand_core.Variables as Variables
pub use Rattle.go_denote_core.specs.operand_core.declared as declared
