pub mod Functions
pub mod Laws
pub mod Locals
pub mod Stands
pub mod Types
pub mod Worked
