-- What the crates above name of go_query_core.
pub use Rattle.go_query_core.specs.Completing as Completing
pub use Rattle.go_query_core.specs.Defining as Defining
pub use Rattle.go_query_core.specs.Documenting as Documenting
pub use Rattle.go_query_core.specs.Entries as Entries
pub use Rattle.go_query_core.specs.Listing as Listing
pub use Rattle.go_query_core.specs.declared as declared
