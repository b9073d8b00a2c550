pub mod NameTableEntries
pub mod NameTableOnce
pub mod NameTablePlacing
pub mod SpellingIndexInserting
pub mod PersistentListCutting
