-- What the crates above name of go_local_core.
pub use Rattle.go_local_core.specs.Alike as Alike
pub use Rattle.go_local_core.specs.Binding as Binding
pub use Rattle.go_local_core.specs.Denoted as Denoted
pub use Rattle.go_local_core.proofs.DenotedLemmas as DenotedLemmas
pub use Rattle.go_local_core.specs.Faults as Faults
pub use Rattle.go_local_core.specs.Law as Law
pub use Rattle.go_local_core.specs.Outline as Outline
pub use Rattle.go_local_core.proofs.Parts as Parts
pub use Rattle.go_local_core.specs.Pieces as Pieces
pub use Rattle.go_local_core.proofs.Placed as Placed
pub use Rattle.go_local_core.specs.Steps as Steps
pub use Rattle.go_local_core.specs.Tables as Tables
pub use Rattle.go_local_core.proofs.Tables as TablesProofs
pub use Rattle.go_local_core.specs.walks.Ends as WalksEnds
pub use Rattle.go_local_core.specs.contracts as contracts
pub use Rattle.go_local_core.specs.declared as declared
pub use Rattle.go_local_core.specs.mirrors as mirrors
