pub mod Printed
pub mod Cases
pub mod Laws
