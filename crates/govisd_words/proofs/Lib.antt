pub mod AddressLemmas
pub mod CommandLemmas
pub mod CountLemmas
pub mod PlainWords
pub mod WordLemmas
