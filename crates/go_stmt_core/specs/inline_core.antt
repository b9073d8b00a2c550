-- What the crates above name of go_inline_core.
pub use Rattle.go_inline_core.proofs.ByIntervals as ByIntervals
pub use Rattle.go_inline_core.specs.Functions as Functions
pub use Rattle.go_inline_core.specs.Inline as Inline
pub use Rattle.go_inline_core.specs.Trees as Trees
pub use Rattle.go_inline_core.specs.Types as Types
