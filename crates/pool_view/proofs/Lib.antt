pub mod LeadingLemmas
pub mod WalkLemmas
pub mod MatchLemmas
pub mod WorkedViews
