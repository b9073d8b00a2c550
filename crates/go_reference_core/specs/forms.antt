pub mod Forms
pub mod mirrors
