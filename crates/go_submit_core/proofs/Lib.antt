mod Growing
pub mod Lists
pub mod Numbers
mod Places
pub mod Sounds
pub mod Trees
mod HistoryRules
