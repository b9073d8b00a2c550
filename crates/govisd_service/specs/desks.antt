pub mod Sessions
pub mod Desks
