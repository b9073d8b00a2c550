-- What the crates above name of go_env_core.
pub use Rattle.go_body_core.specs.env_core.Found as Found
pub use Rattle.go_body_core.specs.env_core.Looks as Looks
pub use Rattle.go_body_core.specs.env_core.Scenes as Scenes
pub use Rattle.go_body_core.specs.env_core.declared as declared
