pub mod HearingLemmas
