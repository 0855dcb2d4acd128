pub mod Listing
pub mod Calls
pub mod Pieces
pub mod Printed
pub mod Theorems
