pub mod Answers
pub mod Choices
pub mod Outcomes
pub mod Runs
