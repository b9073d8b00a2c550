-- What the crates above name of go_board_core.
pub use Rattle.go_board_core.proofs.Grows as Grows
