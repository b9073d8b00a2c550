pub mod Files
pub mod Imports
pub mod Laws
pub mod Package
pub mod Runs
pub mod Stands
pub mod mirrors
