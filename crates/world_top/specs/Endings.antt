-- How a call of the program may end, and what each ending means.
use Rattle.std.specs.Prelude.{◌≡◌, ℕ, ◌<◌, ◌≤◌, Bool, true, false, List, [], ◌∷◌, ◌++◌, length, Option, Some, None, IfSome, codes}
use Rattle.std.specs.Fmt.{decimal}
use Rattle.std.specs.Io.KnownBytes.{IsAtEnd}
use Rattle.std.specs.declared.string.String.{String}
use Rattle.ecs_io.specs.Streams.{Rose, Grows, GrowsByFront, Stays}
use Rattle.world_top.specs.declared.verb.Verb.{Verb}
use Rattle.world_top.specs.declared.refused.InputRefused.{InputRefused}
use Rattle.world_top.specs.declared.refused.InputRefused.TheVariants as cause
use Rattle.world_top.specs.declared.outcome.FaultAt.{FaultAt}
use Rattle.world_top.specs.declared.outcome.FaultAt.TheVariants as place
use Rattle.world_top.specs.declared.outcome.Outcome.{Outcome}
use Rattle.world_top.specs.declared.outcome.Outcome.TheVariants as ending
use Rattle.world_top.specs.Output.{IsOutput, IsBadInput, IsPastLimit}
use Rattle.world_top.specs.Words.{reads_input, verb_of}

-- the longest input that the program reads
abbrev pub input_limit : ℕ
input_limit = 67108864

-- a source and a sink around a call
pub record Streams : Type 0 where
  -- what the source told that it would give, before the call and after it
  pub input : Option (List ℕ)
  pub rest : Option (List ℕ)
  -- how often it had failed
  pub reads_before : ℕ
  pub reads_after : ℕ
  -- how often the sink had failed
  pub writes_before : ℕ
  pub writes_after : ℕ

-- an input within the limit was read to its end, and this holds of it where the source told it
abbrev pub WasRead : Option (List ℕ) → Option (List ℕ) → (List ℕ → Type 0) → Type 0
WasRead input rest holds = IsAtEnd rest × IfSome input (λ bytes. (length bytes ≤ input_limit) × holds bytes)

-- this holds of what a command takes for its input: the source's, read to its end, where it reads one, and nothing where it does not
abbrev pub Takes : Bool → Option (List ℕ) → Option (List ℕ) → (List ℕ → Type 0) → Type 0
Takes true input rest holds = WasRead input rest holds
Takes false input rest holds = holds []

-- the source is as it was: it gives the same, and no read failed
abbrev pub IsUnread : Option (List ℕ) → Option (List ℕ) → ℕ → ℕ → Type 0
IsUnread input rest reads_before reads_after = (rest ≡ input) × (reads_after ≡ reads_before)

-- the output of a command for its input went to a sink in this way
abbrev pub Prints : Verb → Streams → (List ℕ → Type 0) → Type 0
Prints verb s by = Takes (reads_input verb) s.input s.rest (λ input. (bytes : List ℕ) × IsOutput verb input bytes × by bytes)

-- what each ending of a command means for its source and its sink, which held old before and holds new after
abbrev pub Means : Verb → Streams → (List ℕ → Type 0) → (List ℕ → Type 0) → Outcome → Type 0
Means verb s old new ending.Done = Prints verb s (Grows old new)
Means verb s old new ending.Usage = ⊥
Means verb s old new (ending.BadInput at) = Takes (reads_input verb) s.input s.rest (λ input. IsBadInput verb input at) × Stays old new
Means verb s old new ending.ReadFault = Rose s.reads_before s.reads_after × Stays old new × (reads_input verb ≡ true)
Means verb s old new ending.WriteFault = Rose s.writes_before s.writes_after × Prints verb s (GrowsByFront old new)
Means verb s old new ending.TooLong = IfSome s.input (λ input. input_limit < length input) × Stays old new × (reads_input verb ≡ true)
Means verb s old new ending.OutOfMemory = Stays old new
Means verb s old new ending.TickLimit = Takes (reads_input verb) s.input s.rest (IsPastLimit verb) × Stays old new

-- a command that reads no input leaves the source as it was, however it ends
abbrev pub LeavesSource : Verb → Streams → Type 0
LeavesSource verb s = reads_input verb ≡ false → IsUnread s.input s.rest s.reads_before s.reads_after

-- the same, where the words may be no command: usage comes exactly there, nothing is read, and nothing is written
abbrev pub MeansFor : Option Verb → Streams → (List ℕ → Type 0) → (List ℕ → Type 0) → Outcome → Type 0
MeansFor None s old new outcome = (outcome ≡ ending.Usage) × Stays old new × IsUnread s.input s.rest s.reads_before s.reads_after
MeansFor (Some verb) s old new outcome = Means verb s old new outcome × LeavesSource verb s

-- the number of a status
abbrev pub number_of : Outcome → ℕ
number_of ending.Done = 0
number_of ending.Usage = 2
number_of (ending.BadInput at) = 3
number_of ending.ReadFault = 4
number_of ending.WriteFault = 5
number_of ending.TooLong = 6
number_of ending.OutOfMemory = 7
number_of ending.TickLimit = 8

-- the words that tell an ending
abbrev pub fault_words : Outcome → List ℕ
fault_words ending.Done = []
fault_words ending.Usage = codes "world: usage\n"
fault_words (ending.BadInput (place.Line line)) = codes "world: line "
fault_words (ending.BadInput (place.Offset offset)) = codes "world: offset "
fault_words ending.ReadFault = codes "world: read fault\n"
fault_words ending.WriteFault = codes "world: write fault\n"
fault_words ending.TooLong = codes "world: input too long\n"
fault_words ending.OutOfMemory = codes "world: out of memory\n"
fault_words ending.TickLimit = codes "world: tick limit\n"

-- the number that tells where a bad part of an input is: the line's, or the offset of a field
abbrev pub number_at : FaultAt → ℕ
number_at (place.Line line) = line
number_at (place.Offset offset) = offset

-- the number behind them, with the line's end (10)
abbrev pub fault_number : Outcome → List ℕ
fault_number (ending.BadInput at) = decimal (number_at at) ++ 10 ∷ []
fault_number _ = []

-- the line that tells an ending, and nothing where all is done
abbrev pub fault_line : Outcome → List ℕ
fault_line outcome = fault_words outcome ++ fault_number outcome

-- how a call of the program ends: with the number of an outcome that means what it says, and its line on the fault sink, whole
-- where no write there failed and else a front of it
pub record Ends {A : Type 0} (words : List (String A)) (s : Streams) (old new told_before told_after : List ℕ → Type 0) (faults_before faults_after number : ℕ) : Type 0 where
  pub outcome : Outcome
  pub status : number ≡ number_of outcome
  pub meaning : MeansFor (verb_of words) s old new outcome
  pub front : GrowsByFront told_before told_after (fault_line outcome)
  pub whole : (Rose faults_before faults_after → ⊥) → Grows told_before told_after (fault_line outcome)

-- the ending of a command that has no output for an input, for this cause
abbrev pub outcome_for : InputRefused → Outcome
outcome_for (cause.BadInput at) = ending.BadInput at
outcome_for cause.OutOfMemory = ending.OutOfMemory
outcome_for cause.TickLimit = ending.TickLimit

-- why there is no output
abbrev pub IsRefusal : Verb → Option (List ℕ) → Option (List ℕ) → ℕ → ℕ → Outcome → Type 0
IsRefusal verb input rest reads_before reads_after ending.Done = ⊥
IsRefusal verb input rest reads_before reads_after ending.Usage = ⊥
IsRefusal verb input rest reads_before reads_after (ending.BadInput at) = Takes (reads_input verb) input rest (λ bytes. IsBadInput verb bytes at)
IsRefusal verb input rest reads_before reads_after ending.ReadFault = Rose reads_before reads_after × (reads_input verb ≡ true)
IsRefusal verb input rest reads_before reads_after ending.WriteFault = ⊥
IsRefusal verb input rest reads_before reads_after ending.TooLong = IfSome input (λ bytes. input_limit < length bytes) × (reads_input verb ≡ true)
IsRefusal verb input rest reads_before reads_after ending.OutOfMemory = Unit {0}
IsRefusal verb input rest reads_before reads_after ending.TickLimit = Takes (reads_input verb) input rest (IsPastLimit verb)
