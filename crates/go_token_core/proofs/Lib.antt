pub mod CharacterLemmas
pub mod Choices
pub mod EmptyLemmas
pub mod EscapeLemmas
pub mod NumberLemmas
pub mod PlainLemmas
pub mod ValueLemmas
