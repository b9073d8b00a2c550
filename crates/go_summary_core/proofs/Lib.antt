mod Growing
mod Places
pub mod Records
pub mod Telling
pub mod Viewed
pub mod AlikeEqual
pub mod AlikeEqualLists
pub mod AlikeListed
pub mod AlikeRecords
pub mod ShownOrdering
pub mod ShownPicking
