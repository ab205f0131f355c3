pub mod Trees
pub mod Telling
pub mod Conditions
pub mod Budgets
