pub mod Answer
pub mod Number
pub mod OwnPlan
