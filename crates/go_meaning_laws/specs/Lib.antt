pub mod source_meaning
pub mod program_meaning
pub mod fitting_sources
pub mod object_sources
pub mod handle_core
