-- What the crates above name of go_handle_core.
pub use Rattle.go_summary_core.specs.handle_core.Declarations as Declarations
