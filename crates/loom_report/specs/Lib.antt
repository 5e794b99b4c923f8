pub mod OpenLine
