pub mod Grouped
pub mod Engine
pub mod Families
pub mod Moving
pub mod Masks
pub mod Layout
pub mod Clearing
