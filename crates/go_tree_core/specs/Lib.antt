pub mod Laws
pub mod Names
pub mod Occurrences
pub mod Renaming
pub mod mirrors
pub mod copies
