-- What `step` is by the effect, what going through a core's copies finds, and one call made in place.
pub mod Effects
pub mod Looking
pub mod Making
