pub mod Words
pub mod Meanings
pub mod Scenes
pub mod Looking
pub mod mirrors
