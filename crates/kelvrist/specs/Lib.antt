pub mod PlanBytes
pub mod PageBytes
pub mod Cases
pub mod Numbers
pub mod Page
pub mod OwnPlan
pub mod Pass
pub mod Laws
