-- What the crates above name of go_block_core.
pub use Rattle.go_block_core.specs.Blocks as Blocks
pub use Rattle.go_block_core.specs.Declarations as Declarations
pub use Rattle.go_block_core.specs.Exports as Exports
pub use Rattle.go_block_core.specs.Holding as Holding
pub use Rattle.go_block_core.specs.Naming as Naming
pub use Rattle.go_block_core.proofs.NamingLemmas as NamingLemmas
pub use Rattle.go_block_core.specs.Tables as Tables
pub use Rattle.go_block_core.specs.declared as declared
