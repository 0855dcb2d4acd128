pub mod OneVerdict
pub mod OneAnswer
