pub mod NoteCodes
