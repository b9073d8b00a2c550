pub mod Everywhere
pub mod LineLemmas
pub mod Numbers
