pub mod Words
pub mod JournalLines
pub mod Top
pub mod Scripts
pub mod ShowLines
