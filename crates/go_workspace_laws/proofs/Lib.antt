pub mod Agree
pub mod Among
mod AnswerLists
mod AnswerStanding
mod Answering
pub mod Answers
pub mod Called
pub mod Clean
pub mod CodeFunctions
pub mod ConstantCalling
pub mod ConstantLists
pub mod ConstantMethods
pub mod Declaring
pub mod FileStanding
pub mod FileTelling
mod Fitting
pub mod Functions
pub mod Given
pub mod Grammar
pub mod Making
pub mod Meanings
pub mod Methods
pub mod Names
mod Objects
mod Own
mod Packages
pub mod Parts
pub mod Pieces
pub mod Placed
pub mod Reading
pub mod Referring
pub mod Refusing
pub mod Ruled
mod Scenes
mod Selecting
pub mod Snapshots
pub mod Sound
pub mod Tables
mod Targets
mod Telling
pub mod Terms
mod Told
pub mod Uses
mod Walking
pub mod Wider
pub mod Within
pub mod FoldingCalls
pub mod FoldingFolding
pub mod FoldingInside
pub mod FoldingNames
pub mod FoldingOperators
pub mod FoldingWords
mod ExistenceChains
mod ExistenceChecks
mod ExistenceFaults
mod ExistenceFilling
mod ExistenceLooped
mod ExistenceLoops
mod ExistenceOrders
mod ExistenceParts
mod ExistenceReached
mod ExistenceSettling
mod ExistenceTables
mod ExistenceTypes
mod ExistenceWhole
pub mod CirclesCircles
pub mod CirclesCutting
pub mod CirclesDirectly
pub mod CirclesElsewhere
pub mod CirclesFronts
pub mod CirclesGrammar
pub mod CirclesNaming
pub mod CirclesRounds
pub mod CirclesRuled
pub mod CirclesWholes
