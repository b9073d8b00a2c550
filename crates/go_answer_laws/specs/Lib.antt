pub mod declarations
pub mod definitions
pub mod completions
