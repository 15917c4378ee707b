pub mod Cells
pub mod Busy
pub mod Layout
pub mod Rows
pub mod Marks
pub mod Drawn
