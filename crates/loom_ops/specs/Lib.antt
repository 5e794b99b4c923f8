pub mod Ops
pub mod Rows
pub mod Answer
pub mod Laws
