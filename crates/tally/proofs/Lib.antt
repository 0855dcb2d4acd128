-- Laws about the tally's line.
pub mod Putting
