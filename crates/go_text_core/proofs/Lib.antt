pub mod Each
mod Ascii
