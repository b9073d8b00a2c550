-- What the crates above name of go_collections_core.
pub use Rattle.go_collections_core.specs.name_table.Named as NameTableNamed
pub use Rattle.go_collections_core.specs.persistent_list.Staying as PersistentListStaying
pub use Rattle.go_collections_core.specs.spelling_index.Spelled as SpellingIndexSpelled
pub use Rattle.go_collections_core.specs.declared as declared
