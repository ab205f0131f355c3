pub mod Keyed
pub mod Tests
pub mod Filters
pub mod Found
pub mod Claims
pub mod Days
