pub mod Ends
pub mod Notices
pub mod Threads
pub mod desks
