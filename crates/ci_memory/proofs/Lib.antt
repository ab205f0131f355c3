mod Changes
mod Failing
mod Finds
mod Listed
pub mod Quiets
pub mod Rights
pub mod Covers
pub mod Stays
pub mod Supersedes
pub mod Least
pub mod Looking
