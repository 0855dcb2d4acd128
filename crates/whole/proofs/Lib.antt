-- Laws that more than one proof cites, and the theorems.
pub mod OneListed
pub mod Fitting
pub mod Lists
pub mod Checking
