pub mod Answering
pub mod Corresponding
pub mod Crossing
mod Funcs
pub mod Meanings
pub mod Numbered
mod Stages
pub mod Steps
pub mod PrepareFaulty
mod PrepareForms
mod PrepareInitials
pub mod PrepareLists
pub mod PrepareMade
mod PreparePlacing
pub mod PrepareTables
mod PrepareTyped
pub mod PrepareValues
mod PackagePartChecks
mod PackagePartFiling
mod PackagePartMade
mod PackagePartNumbering
mod PackagePartOccurring
mod PackagePartOnePart
mod PackagePartRuleTest
mod PackagePartSeen
