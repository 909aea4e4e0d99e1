pub mod PackedSets
pub mod WalkOrders
pub mod Pages
pub mod Places
