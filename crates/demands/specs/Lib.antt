-- the demands of the notice, each in its file
pub mod Demand1
pub mod Demand2
pub mod Demand3
-- what their proofs rest on
pub mod Laws
