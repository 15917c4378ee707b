pub mod Graph
pub mod Laws
