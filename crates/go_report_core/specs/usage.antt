pub mod Laws
pub mod Reported
pub mod Used
pub mod mirrors
