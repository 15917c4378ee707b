-- What follows from the definitions and serves the proofs, here and in the crates above; a reader of the contracts needs none of it.
pub mod Counting
pub mod Tally
pub mod ByPlace
pub mod Rising
pub mod Listed
pub mod ByKey
