pub mod Identifiers
pub mod Fields
pub mod Bits
pub mod Texts
pub mod FiniteMap
pub mod Cuts
pub mod PackedLists
pub mod Matching
