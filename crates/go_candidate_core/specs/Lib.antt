pub mod context
pub mod fitting
pub mod after_dot
pub mod at_place
pub mod declared_core
pub mod handle_core
