mod Answering
mod Changing
mod Joining
mod Ordering
mod Showing
mod SeparationApart
mod SeparationCases
mod SeparationLists
mod SeparationSounds
mod SeparationTaken
pub mod SeparationTrees
pub mod SessionsBoards
mod SessionsIdentifiers
mod SessionsImports
mod SessionsJoining
mod SessionsPackages
mod SessionsRuns
