-- What the crates above name of go_local_core.
pub use Rattle.go_local_core.specs.Alike as Alike
pub use Rattle.go_local_core.specs.Binding as Binding
pub use Rattle.go_local_core.specs.Law as Law
pub use Rattle.go_local_core.specs.Outline as Outline
pub use Rattle.go_local_core.specs.Pieces as Pieces
pub use Rattle.go_local_core.specs.Steps as Steps
pub use Rattle.go_local_core.specs.Tables as Tables
pub use Rattle.go_local_core.specs.walks.Ends as WalksEnds
pub use Rattle.go_local_core.specs.walks.PieceIdents as WalksPieceIdents
pub use Rattle.go_local_core.proofs.WalksStepLemmas as WalksStepLemmas
pub use Rattle.go_local_core.proofs.WalksVisits as WalksVisits
pub use Rattle.go_local_core.specs.declared as declared
pub use Rattle.go_local_core.specs.mirrors as mirrors
