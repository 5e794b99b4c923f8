pub mod View
pub mod Record
pub mod GateMachine
pub mod Rule
pub mod Tells
pub mod Seats
pub mod Calls
pub mod Laws
