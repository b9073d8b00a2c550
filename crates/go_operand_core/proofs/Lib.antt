pub mod Relating
pub mod Typing
pub mod Tables
pub mod Known
pub mod Refusing
pub mod Varying
pub mod Converting
