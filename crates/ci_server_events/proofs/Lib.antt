pub mod Lists
pub mod Found
pub mod Showing
pub mod Telling
pub mod Held
pub mod Leaving
pub mod Asking
pub mod Granting
pub mod Creating
pub mod Settles
pub mod Acting
pub mod Pruning
pub mod Sheets
pub mod GroupLists
mod ReportTelling
mod ReportJobs
mod Further
