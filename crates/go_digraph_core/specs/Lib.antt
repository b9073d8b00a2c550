pub mod cycle
pub mod reach
pub mod chain
pub mod needs
pub mod ready_queue
