-- What a run of the journal means for the output.
pub mod Listed
