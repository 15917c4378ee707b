pub mod Put
pub mod Digits
pub mod Calls
pub mod Listed
pub mod Told
