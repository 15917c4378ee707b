-- What follows from the definitions and serves the proofs; a reader of the contracts needs none of it.
pub mod OnePass
pub mod Turn
pub mod ByWeight
