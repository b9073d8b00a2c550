-- What the crates above name of go_submit_core.
pub use Rattle.go_submit_core.specs.Coding as Coding
pub use Rattle.go_submit_core.proofs.Lists as Lists
pub use Rattle.go_submit_core.specs.Published as Published
pub use Rattle.go_submit_core.proofs.Sounds as Sounds
pub use Rattle.go_submit_core.specs.Trees as Trees
pub use Rattle.go_submit_core.specs.contracts as contracts
pub use Rattle.go_submit_core.specs.declared as declared
