pub mod Found
pub mod FreshSound
pub mod FreshStays
pub mod Learned
pub mod Lists
pub mod Placing
pub mod Stays
