-- Lemmas.
pub mod Saying
pub mod Rounds
pub mod Further
pub mod Layouts
pub mod Noting
