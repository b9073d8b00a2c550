pub mod Heads
pub mod Laws
pub mod Outside
pub mod Rows
pub mod Spans
pub mod mirrors
