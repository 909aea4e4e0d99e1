pub mod Choosing
pub mod Facts
pub mod Keeping
pub mod Layout
pub mod Schedules
pub mod States
pub mod Steps
