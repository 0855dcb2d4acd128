-- The proofs of the theorems about the driver.
pub mod OneReading
pub mod OneListing
pub mod Pieces
pub mod Whole
pub mod Lines
pub mod Printed
pub mod Writing
pub mod StartOne
pub mod PlayOne
pub mod Progressing
pub mod Calling
