pub mod Universe
