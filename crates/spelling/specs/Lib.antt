pub mod Text
pub mod Bytes
pub mod One
pub mod Decimal
pub mod Hex
pub mod Over
pub mod Theorems
