pub mod Fields
pub mod Due
pub mod Snapshots
pub mod Packing
pub mod Reading
