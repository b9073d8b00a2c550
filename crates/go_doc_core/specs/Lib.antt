pub mod DocComments
pub mod Laws
pub mod mirrors
pub mod symbol
