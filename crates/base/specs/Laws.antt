-- What follows from the definitions and serves the proofs; a reader of the contracts needs none of it.
pub mod Tests
pub mod Number
pub mod Lists
pub mod Values
pub mod Sums
pub mod Most
pub mod Stored
pub mod Filled
pub mod Put
