pub mod Stars
pub mod Homes
pub mod Declarations
pub mod Names
pub mod mirrors
pub mod deciding
pub mod table_core
