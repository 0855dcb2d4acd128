-- Laws of what is written of a conversion.
pub mod Writing
