pub mod Listing
pub mod Cases
pub mod Printed
pub mod Laws
