-- What the crates above name of go_block_core.
pub use Rattle.go_names_core.specs.block_core.Blocks as Blocks
pub use Rattle.go_names_core.specs.block_core.Exports as Exports
pub use Rattle.go_names_core.specs.block_core.declared as declared
