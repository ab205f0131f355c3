pub mod Readings
pub mod Merging
pub mod Laying
pub mod Untried
