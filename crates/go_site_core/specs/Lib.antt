pub mod Sites
pub mod graph_core
pub mod handle_core
pub mod report_core
pub mod summary_core
pub mod text_core
