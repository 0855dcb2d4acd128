-- Laws that more than one proof cites.
pub mod Reading
pub mod Counting
pub mod Running
pub mod Resuming
pub mod Putting
pub mod Stepping
pub mod Loop
pub mod Starting
