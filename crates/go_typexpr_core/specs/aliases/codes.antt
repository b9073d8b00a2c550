-- How models that hold aliases are stored. No statement that a caller rests on needs it.
pub mod AliasCodes
