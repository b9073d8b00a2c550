-- What the crates above name of go_denote_core.
pub use Rattle.go_denote_core.specs.Answers as Answers
pub use Rattle.go_denote_core.specs.Arguments as Arguments
pub use Rattle.go_denote_core.specs.Calls as Calls
pub use Rattle.go_denote_core.specs.composite.Fields as CompositeFields
pub use Rattle.go_denote_core.specs.composite.Keys as CompositeKeys
pub use Rattle.go_denote_core.specs.composite.Literals as CompositeLiterals
pub use Rattle.go_denote_core.specs.composite.Look as CompositeLook
pub use Rattle.go_denote_core.specs.composite.Marks as CompositeMarks
pub use Rattle.go_denote_core.specs.composite.mirrors as CompositeMirrors
pub use Rattle.go_denote_core.proofs.CompositeNames as CompositeNames
pub use Rattle.go_denote_core.specs.composite.Repeats as CompositeRepeats
pub use Rattle.go_denote_core.specs.Laws as Laws
pub use Rattle.go_denote_core.proofs.Locality as Locality
pub use Rattle.go_denote_core.specs.Look as Look
pub use Rattle.go_denote_core.specs.Selectors as Selectors
pub use Rattle.go_denote_core.specs.declared as declared
