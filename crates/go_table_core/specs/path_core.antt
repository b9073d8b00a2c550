-- What the crates above name of go_path_core.
pub use Rattle.go_path_core.specs.Path as Path
