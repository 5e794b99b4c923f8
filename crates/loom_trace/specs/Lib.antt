pub mod Limits
pub mod Rows
pub mod Journal
pub mod Text
pub mod Parts
pub mod Laws
pub mod Places
pub mod ShortEntries
