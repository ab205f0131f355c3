pub mod Refusals
pub mod Objects
