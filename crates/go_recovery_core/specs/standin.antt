pub mod Alone
pub mod Blanks
pub mod Files
pub mod Lines
pub mod Outlines
pub mod Standing
