pub mod Refusals
pub mod Families
