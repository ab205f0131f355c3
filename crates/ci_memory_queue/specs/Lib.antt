pub mod Notes
pub mod Covers
pub mod Turns
pub mod Offers
pub mod Places
pub mod LineCovers
pub mod First
