pub mod Rules
pub mod Planned
pub mod Circles
pub mod Faults
pub mod Said
pub mod Notes
pub mod TableText
