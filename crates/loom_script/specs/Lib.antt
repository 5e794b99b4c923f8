pub mod View
pub mod Words
pub mod Fields
pub mod Lines
pub mod Stalls
pub mod Reading
pub mod ScriptError
pub mod Laws
