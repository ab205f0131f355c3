pub mod Digits
pub mod Ids
pub mod Runs
pub mod Units
pub mod Sums
pub mod Lasting
