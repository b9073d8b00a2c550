mod Taking
mod Tops
mod Stepping
mod Growing
mod Bits
pub mod LinkReaching
pub mod LinkWithin
pub mod LinkLaying
pub mod LinkTurning
pub mod LinkSettled
mod RunsOnes
mod RunsBehind
mod RunsWorked
mod RunsTelling
