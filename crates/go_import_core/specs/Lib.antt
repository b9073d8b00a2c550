pub mod head
pub mod list
pub mod graph_core
pub mod path_core
