-- What the crates above name of go_submit_core.
pub use Rattle.go_board_core.specs.submit_core.Coding as Coding
pub use Rattle.go_board_core.specs.submit_core.Published as Published
pub use Rattle.go_board_core.specs.submit_core.Trees as Trees
pub use Rattle.go_board_core.specs.submit_core.declared as declared
