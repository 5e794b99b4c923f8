pub mod TargetEvent
pub mod Entries
pub mod Replay
pub mod Run
pub mod Answer
