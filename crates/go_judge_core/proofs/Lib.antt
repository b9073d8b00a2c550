pub mod Each
pub mod Noted
pub mod Opened
pub mod Rules
