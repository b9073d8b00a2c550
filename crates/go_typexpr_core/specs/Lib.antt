pub mod written
pub mod entry
pub mod aliases
pub mod type_core
