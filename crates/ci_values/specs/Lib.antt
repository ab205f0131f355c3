pub mod Names
pub mod Attempts
pub mod Numbers
pub mod Table
pub mod VariableName
pub mod Run
pub mod Duration
pub mod Layers
