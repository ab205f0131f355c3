pub mod Alike
pub mod Wholes
pub mod Owns
pub mod Lacks
