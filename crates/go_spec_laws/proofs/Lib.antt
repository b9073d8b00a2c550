mod FrontBranchTables
mod FrontEscapeBytes
mod FrontHeightCounts
mod FrontHeightPaths
mod FrontImportElements
mod FrontImportForms
mod FrontIntegerValues
mod FrontLocalBlocks
mod FrontLocalNames
mod FrontOrderLemmas
mod FrontStringBytes
mod FrontWordTests
pub mod EndingBreaking
pub mod EndingHaving
pub mod EndingLacking
pub mod EndingSamples
pub mod EndingStraying
pub mod EndingTerminating
