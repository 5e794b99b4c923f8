pub mod Lexeme
pub mod Scan
pub mod Tokens
pub mod Name
