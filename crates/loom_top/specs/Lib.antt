pub mod Invocation
pub mod Task
pub mod Read
pub mod Code
pub mod RefusalLine
pub mod ShowText
pub mod TopCall
