pub mod Owed
pub mod ClauseRows
pub mod Notes
pub mod RegionSteps
pub mod Growth
pub mod FilterWalk
