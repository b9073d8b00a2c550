pub mod Near
pub mod Looks
pub mod Tables
pub mod Scenes
pub mod Pieces
pub mod Functions
pub mod Packages
pub mod Laws
