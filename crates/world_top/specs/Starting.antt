-- How the program ends from its arguments, as they are found.
use Rattle.std.specs.Prelude.{◌≡◌, ◌⊎◌, ℕ, List, drop}
use Rattle.std.specs.declared.io.ErrorKind.{ErrorKind}
use Rattle.std.specs.declared.io.ErrorKind.TheVariants as kind
use Rattle.std.specs.declared.string.String.{String}
use Rattle.ecs_io.specs.Streams.{Rose, Grows, GrowsByFront, Stays}
use Rattle.world_top.specs.declared.outcome.Outcome.{Outcome}
use Rattle.world_top.specs.declared.outcome.Outcome.TheVariants as ending
use Rattle.world_top.specs.Endings.{Streams, Ends, number_of, fault_line}

-- the outcome where the arguments can't be had for this reason: there is no memory for them, or one is no text
abbrev pub outcome_without_words : ErrorKind → Outcome
outcome_without_words kind.OutOfMemory = ending.OutOfMemory
outcome_without_words _ = ending.Usage

-- the program does nothing but tell an outcome: it reads nothing, writes nothing, and ends with the outcome's number and its line on
-- the fault sink, whole where no write there failed and else a front of it
pub record OnlyTells (outcome : Outcome) (s : Streams) (old new told_before told_after : List ℕ → Type 0) (faults_before faults_after number : ℕ) : Type 0 where
  pub status : number ≡ number_of outcome
  pub unread : s.rest ≡ s.input
  pub unwritten : Stays old new
  pub front : GrowsByFront told_before told_after (fault_line outcome)
  pub whole : (Rose faults_before faults_after → ⊥) → Grows told_before told_after (fault_line outcome)

-- how the program ends from its arguments, of which the first is its name: as the words behind that ask, or by telling that there is no
-- memory for a list of them
abbrev pub EndsFrom : {A : Type 0} → List (String A) → Streams → (List ℕ → Type 0) → (List ℕ → Type 0) → (List ℕ → Type 0) → (List ℕ → Type 0) → ℕ → ℕ → ℕ → Type 0
EndsFrom arguments s old new told_before told_after faults_before faults_after number =
    Ends (drop 1 arguments) s old new told_before told_after faults_before faults_after number
    ⊎ OnlyTells ending.OutOfMemory s old new told_before told_after faults_before faults_after number
