pub mod Laws
pub mod References
pub mod mirrors
pub mod rename
pub mod outline
pub mod forms
