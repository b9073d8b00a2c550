pub mod Places
pub mod Looking
pub mod mirrors
