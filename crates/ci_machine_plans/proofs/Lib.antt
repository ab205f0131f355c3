pub mod Floats
pub mod Bodies
pub mod Going
