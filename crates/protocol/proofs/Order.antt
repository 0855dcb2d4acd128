-- The order theorem, layer by layer: the log of commits alone; the versions of one line; the spots of a line read off the machine; the invariant;
-- what it asks of the tables' rows; each step; whole lists of calls.
pub mod Log
pub mod Versions
pub mod Look
pub mod Invariant
pub mod Rows
pub mod Steps
pub mod Theorem
pub mod Sequential
