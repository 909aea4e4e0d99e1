pub mod Streams
pub mod Memory
pub mod Quiet
pub mod Adapters
pub mod Refusals
