pub mod Local
pub mod Sights
