mod FileNames
mod FindingLemmas
mod FolderLemmas
mod GroupLemmas
mod PuttingLemmas
mod ReadingLemmas
pub mod ScopeLemmas
pub mod AtOnceBatches
