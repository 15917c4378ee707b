-- definitions, in the order of document 01
pub mod Instance
pub mod Schedule
pub mod Topology
pub mod Rule
pub mod Cover
pub mod Dearest
pub mod Least
pub mod Checker
pub mod Ideal
pub mod Weight
pub mod OfJob
pub mod Bounds
-- what theorems of proofs/ are stated with
pub mod Cases
pub mod Placing
pub mod Walks
pub mod WorstCase
pub mod Results
pub mod Priority
pub mod ChainJob
