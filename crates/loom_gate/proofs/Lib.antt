pub mod Rows
pub mod Machines
pub mod Words
pub mod GateSteps
pub mod CallFacts
pub mod SeatFacts
pub mod GateLogs
pub mod GateLaws
