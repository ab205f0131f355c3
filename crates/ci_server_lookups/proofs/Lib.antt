pub mod Loading
pub mod Holds
pub mod Prunables
pub mod Changes
pub mod Opens
pub mod OpenRows
pub mod Claiming
