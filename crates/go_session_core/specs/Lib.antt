pub mod queries
pub mod overlay
pub mod launches
pub mod query_core
pub mod type_doc_core
