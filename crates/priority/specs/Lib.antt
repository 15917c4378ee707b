pub mod TasksIn
pub mod Orders
pub mod Laws
