pub mod SceneLemmas
pub mod RowLemmas
pub mod MovingLemmas
pub mod RenewalLemmas
pub mod PackedLemmas
pub mod RecorderLemmas
pub mod SequenceLemmas
pub mod GroupedLemmas
