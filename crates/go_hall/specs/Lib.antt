pub mod Coding
pub mod Refusals
pub mod Seat
pub mod batch_core
pub mod hall_core
pub mod sched_core
pub mod session_core
