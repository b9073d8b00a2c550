pub mod Ending
pub mod FunctionLaws
pub mod Functions
pub mod Laws
pub mod Samples
pub mod Standing
