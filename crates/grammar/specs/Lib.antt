pub mod Form
pub mod Refusal
pub mod Table
pub mod Line
pub mod Scan
pub mod Theorems
