pub mod ViewedSets
pub mod ViewedPools
pub mod HeldSets
