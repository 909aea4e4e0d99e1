mod AddLemmas
mod DistinctLemmas
mod FamilyLemmas
mod PoolLemmas
mod RelationLemmas
mod WorldLemmas
