pub mod Refusal
pub mod Report
pub mod Written
