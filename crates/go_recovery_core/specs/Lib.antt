pub mod mend
pub mod standin
