pub mod Life
pub mod Stopped
