-- A call on its pieces, the part that `show` gives, and demand 3 of the engine's own calls.
pub mod Performing
pub mod Showing
pub mod History
