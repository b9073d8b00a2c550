pub mod Places
pub mod TypeFaults
