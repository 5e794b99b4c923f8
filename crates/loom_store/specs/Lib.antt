pub mod Threads
pub mod Parts
pub mod Answer
pub mod Laws
