pub mod Readings
pub mod Creations
