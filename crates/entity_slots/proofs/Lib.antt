pub mod CountLemmas
pub mod ThreadLemmas
pub mod ShownLemmas
pub mod TakenLemmas
pub mod WalkLemmas
pub mod LoadLemmas
pub mod CreationLemmas
pub mod HintedLemmas
