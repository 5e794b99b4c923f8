pub mod Lock
pub mod TicketRule
pub mod Steps
pub mod Seat
pub mod Laws
