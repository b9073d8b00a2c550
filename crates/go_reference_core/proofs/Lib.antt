mod Added
mod Found
mod Joined
mod Sameness
mod RenameCounted
mod RenameKept
mod RenameMoved
mod RenamePaired
mod RenameRetold
pub mod OutlineAdding
pub mod OutlineListed
pub mod OutlineOwning
pub mod OutlineStanding
mod FormsFirsts
mod FormsForming
mod FormsNamed
mod FormsRead
