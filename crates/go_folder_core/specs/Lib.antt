pub mod Folders
pub mod Modules
pub mod Named
pub mod Names
pub mod Places
pub mod mirrors
