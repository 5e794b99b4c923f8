pub mod OpenLines
