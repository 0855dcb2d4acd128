pub mod Spelling
pub mod Forms
pub mod Conversion
pub mod Writing
