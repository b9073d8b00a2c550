pub mod Tests
pub mod Joined
pub mod Meanings
