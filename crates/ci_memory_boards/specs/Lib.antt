pub mod Fresh
pub mod Order
pub mod Room
pub mod Sheets
