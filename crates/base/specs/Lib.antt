pub mod Choice
pub mod Number
pub mod Lists
pub mod Rows
pub mod Slices
pub mod Text
pub mod Laws
