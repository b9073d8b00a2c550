pub mod Backward
pub mod Deciding
pub mod Keeping
pub mod Owning
pub mod Placing
pub mod Seeing
pub mod Walking
pub mod Worked
