pub mod Ran
pub mod Input
pub mod Moved
pub mod Runs
pub mod Complaint
