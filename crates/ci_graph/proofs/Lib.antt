pub mod Steps
pub mod Counts
pub mod Groups
pub mod Queues
pub mod Cycles
pub mod Graphs
