pub mod Planning
pub mod Acting
pub mod Creating
pub mod Groups
pub mod Told
