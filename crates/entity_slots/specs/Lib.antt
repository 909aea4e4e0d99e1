pub mod SlotLists
pub mod Threads
pub mod Threading
