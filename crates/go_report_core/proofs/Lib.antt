pub mod Numbers
pub mod Order
pub mod Settled
mod TypeFaultsAdding
pub mod TypeFaultsLoops
pub mod TypeFaultsReaching
pub mod AnswerFaulty
pub mod AnswerListed
pub mod AnswerRising
pub mod AnswerSharing
pub mod AnswerShowing
pub mod AnswerStepping
pub mod AnswerWorked
mod UsageBound
mod UsagePlaces
mod UsageSaid
mod UsageSteps
mod UsageUsing
