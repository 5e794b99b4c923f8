pub mod Small
pub mod Front
pub mod Unique
pub mod TokenList
pub mod Words
pub mod Proper
