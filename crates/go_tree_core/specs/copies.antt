pub mod Respelled
