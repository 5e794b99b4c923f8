pub mod FieldCuts
pub mod Moments
pub mod Texts
pub mod LineReading
pub mod LineCuts
pub mod ScriptReading
pub mod OneReading
pub mod ShortTexts
