pub mod PathLaws
pub mod Paths
