pub mod Found
pub mod Look
pub mod Seen
pub mod Spans
