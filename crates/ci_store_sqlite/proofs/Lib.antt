mod Appending
mod Applied
pub mod Committing
mod Loading
mod Looking
pub mod Openings
pub mod Migrates
pub mod Versions
pub mod AnyOpenings
