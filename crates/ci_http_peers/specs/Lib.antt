pub mod Peer
pub mod Peers
pub mod Answers
pub mod Connections
pub mod Turns
