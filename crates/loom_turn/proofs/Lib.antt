pub mod Changes
pub mod Locks
pub mod Tables
pub mod Seats
