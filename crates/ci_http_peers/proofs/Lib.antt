pub mod Soonest
pub mod Rooms
pub mod Turns
