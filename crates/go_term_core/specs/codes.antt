-- How models that hold terms are stored. No statement that a caller rests on needs it.
pub mod TermCodes
