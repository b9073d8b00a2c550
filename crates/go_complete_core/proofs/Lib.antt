pub mod Answered
pub mod Dots
pub mod Exporting
pub mod NoPackage
pub mod OwnThings
pub mod Standing
pub mod SpellingAnew
mod SpellingBodies
mod SpellingBodyListed
pub mod SpellingChanges
mod SpellingChecked
mod SpellingEntries
mod SpellingFileBodies
mod SpellingFileListed
mod SpellingGiven
mod SpellingInFiles
pub mod SpellingInLists
mod SpellingInitials
mod SpellingLengths
mod SpellingListed
pub mod SpellingLooking
mod SpellingNames
mod SpellingNoted
mod SpellingOuter
pub mod SpellingPieceStaying
pub mod SpellingPieces
mod SpellingPlaces
pub mod SpellingPlain
pub mod SpellingSplits
mod SpellingStaying
pub mod SpellingTreading
pub mod SpellingTypes
mod SpellingWalking
pub mod SpellingWalks
pub mod PlacePlacing
mod ViewsEnough
mod ViewsMeaning
mod ViewsAlike
mod ViewsDeciding
mod ViewsKeeping
pub mod ViewsLeading
mod ViewsPaths
mod HintOpening
mod HintWithin
mod HintStanding
mod HintGiving
