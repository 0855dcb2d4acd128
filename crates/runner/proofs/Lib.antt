-- Laws that more than one proof cites.
pub mod Calling
pub mod Reading
pub mod Saying
