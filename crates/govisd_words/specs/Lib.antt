pub mod Addresses
pub mod Asking
pub mod Counts
pub mod Listening
pub mod Statuses
pub mod Styles
pub mod Texts
