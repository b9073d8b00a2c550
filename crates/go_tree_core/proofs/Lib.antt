pub mod Counting
pub mod Covering
pub mod OccLemmas
pub mod Order
pub mod Pieces
pub mod Respelling
pub mod Telling
pub mod Visits
pub mod CopiesSameTrees
mod CopiesUnchanged
