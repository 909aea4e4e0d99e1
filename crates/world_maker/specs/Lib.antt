pub mod Draws
pub mod MadeWorlds
pub mod Making
pub mod Summaries
