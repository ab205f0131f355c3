pub mod Lookups
pub mod Boards
pub mod Changes
pub mod Acts
pub mod Ends
pub mod HolderChanges
