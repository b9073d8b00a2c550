-- Definitions that mirror the code.
pub mod Numbered
