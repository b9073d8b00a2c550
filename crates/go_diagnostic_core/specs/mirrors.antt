pub mod Fittings
pub mod Nears
