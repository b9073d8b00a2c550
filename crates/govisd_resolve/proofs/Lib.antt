pub mod InputLemmas
pub mod InputsAgree
pub mod OneFound
pub mod OutputLemmas
pub mod Putting
pub mod ReportLemmas
pub mod ToldLinesLineLemmas
