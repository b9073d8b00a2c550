pub mod Identity
pub mod Conversion
pub mod Selecting
pub mod Implementing
pub mod Assigning
pub mod Rules
pub mod Worked
pub mod Laws
