pub mod Stored
pub mod Layout
pub mod Changed
pub mod Lends
