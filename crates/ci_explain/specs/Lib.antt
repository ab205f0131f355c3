pub mod Gitlab
pub mod Report
pub mod Said
pub mod Told
pub mod Verdicts
pub mod Laws
