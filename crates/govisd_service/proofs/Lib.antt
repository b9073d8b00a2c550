mod LinesServed
mod Unserved
pub mod Crossing
mod DesksMany
mod DesksOpening
mod Doors
