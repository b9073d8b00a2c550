-- How models that hold trees are stored. No statement that a caller rests on needs it.
pub mod Labels
pub mod TreeCodes
