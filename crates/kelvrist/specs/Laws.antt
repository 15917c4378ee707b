pub mod Encoded
pub mod Decoded
pub mod Taken
pub mod OwnPlan
pub mod InBytes
