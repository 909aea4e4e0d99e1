pub mod Building
pub mod Conflicts
pub mod Graphs
pub mod Systems
