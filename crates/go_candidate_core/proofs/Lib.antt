pub mod ContextDeciding
pub mod ContextListed
pub mod ContextLocals
pub mod FittingFits
pub mod AfterDotKeeping
pub mod AfterDotLeaving
pub mod AfterDotChosen
pub mod AfterDotKeyed
pub mod AfterDotOrdering
mod AtPlaceAgreeing
mod AtPlaceLooking
pub mod AtPlaceJudging
mod AtPlaceNeeding
mod AtPlaceOtherKeys
