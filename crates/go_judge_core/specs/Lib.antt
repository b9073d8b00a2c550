pub mod Breaking
pub mod Misfits
pub mod Places
pub mod Written
