pub mod Words
pub mod Programs
pub mod Machine
pub mod Ends
pub mod Laws
pub mod mirrors
pub mod link
pub mod runs
