-- What the crates above name of go_session_core.
pub use Rattle.go_session_core.specs.overlay.Edits as OverlayEdits
pub use Rattle.go_session_core.specs.queries.Asked as QueriesAsked
pub use Rattle.go_session_core.specs.queries.Built as QueriesBuilt
pub use Rattle.go_session_core.specs.queries.Queries as QueriesQueries
pub use Rattle.go_session_core.specs.declared as declared
