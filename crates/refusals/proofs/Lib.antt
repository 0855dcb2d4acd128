-- Laws that more than one proof cites.
pub mod Laws
