-- Laws about lists of calls in both forms, and about the lines of a result.
pub mod Lists
pub mod OneConversion
pub mod Back
pub mod Kept
pub mod AnyBuffer
