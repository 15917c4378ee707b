-- what holds of the definitions of specs/
pub mod Cases
pub mod Bounds
pub mod Placing
pub mod Verdict
pub mod Walks
pub mod Chains
pub mod WorstCase
pub mod Results
pub mod LeastWalks
pub mod Weights
pub mod Choices
pub mod Jobs
pub mod ChainJob
-- the proofs
pub mod Laws
