pub mod Asked
pub mod Best
pub mod Changes
