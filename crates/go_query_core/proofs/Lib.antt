pub mod Completed
pub mod Documented
pub mod Importing
pub mod Listed
pub mod Reaching
pub mod Spotted
pub mod Using
