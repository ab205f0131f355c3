pub mod Delta
pub mod Made
pub mod Store
pub mod Fault
pub mod Stands
pub mod Statements
pub mod Prelude
