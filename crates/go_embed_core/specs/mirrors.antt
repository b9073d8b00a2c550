pub mod Edges
pub mod Tallies
pub mod Places
pub mod Passing
