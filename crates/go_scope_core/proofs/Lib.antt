pub mod Blank
pub mod LawLemmas
pub mod Listed
pub mod Lookups
