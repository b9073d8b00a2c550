-- What the crates above name of go_board_core.
pub use Rattle.go_board_core.specs.Views as Views
pub use Rattle.go_board_core.specs.declared as declared
