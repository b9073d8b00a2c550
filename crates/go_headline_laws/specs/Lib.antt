pub mod Headline
pub mod SessionHeadline
pub mod separation
