pub mod Counts
pub mod ThreadList
pub mod PartAnswers
pub mod Waits
pub mod OneAnswer
pub mod Sizes
pub mod Deeds
