pub mod Sets
pub mod Interfaces
pub mod Promoting
pub mod Orders
pub mod MethodSorts
pub mod Answering
pub mod Locality
pub mod Lacking
