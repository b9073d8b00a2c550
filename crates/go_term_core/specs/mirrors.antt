-- Definitions that mirror the code.
pub mod Alike
