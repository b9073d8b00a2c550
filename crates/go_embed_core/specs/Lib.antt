pub mod Owners
pub mod OwnersShown
pub mod Faults
pub mod Laws
pub mod mirrors
pub mod table_core
pub mod type_core
