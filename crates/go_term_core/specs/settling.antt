pub mod Laws
pub mod Settled
pub mod Clean
pub mod mirrors
