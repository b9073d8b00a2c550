-- What the crates above name of go_parse_core.
pub use Rattle.go_parse_core.specs.Correct as Correct
pub use Rattle.go_parse_core.specs.Refusing as Refusing
pub use Rattle.go_parse_core.specs.declared as declared
