-- What mirrors the code for its proof.
pub mod Later
