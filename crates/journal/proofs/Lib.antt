pub mod Lines
pub mod OneNext
pub mod Whole
