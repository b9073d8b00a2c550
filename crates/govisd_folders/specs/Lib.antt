pub mod Checks
pub mod Selecting
pub mod Telling
pub mod runs
