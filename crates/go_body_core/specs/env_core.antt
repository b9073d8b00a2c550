-- What the crates above name of go_env_core.
pub use Rattle.go_env_core.specs.Fields as Fields
pub use Rattle.go_env_core.specs.Found as Found
pub use Rattle.go_env_core.specs.Looks as Looks
pub use Rattle.go_env_core.specs.Scenes as Scenes
pub use Rattle.go_env_core.specs.declared as declared
