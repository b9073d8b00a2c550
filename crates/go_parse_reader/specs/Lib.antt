pub mod types
pub mod exprs
