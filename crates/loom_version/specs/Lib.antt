pub mod Version
pub mod Laws
pub mod Plans
pub mod SlowFunctions
pub mod LineTable
