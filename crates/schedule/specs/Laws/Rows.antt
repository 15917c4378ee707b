pub mod SomeIn
pub mod FirstMost
pub mod Entry
pub mod Lifted
pub mod Greatest
