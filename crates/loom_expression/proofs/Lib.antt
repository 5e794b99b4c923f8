pub mod Sound
pub mod Whole
pub mod Viable
pub mod Natural
pub mod Stacks
pub mod Refusal
