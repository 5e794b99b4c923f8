pub mod Tree
pub mod Code
pub mod Token
pub mod Decimal
pub mod Lines
pub mod Chain
