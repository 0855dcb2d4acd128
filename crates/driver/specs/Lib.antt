pub mod Listing
pub mod Play
pub mod Pieces
