-- Which words of the program are which command.
use Rattle.std.specs.Prelude.{ℕ, ◌-◌, ◌^◌, ◌<◌, ◌≤◌, ◌&&◌, Bool, true, false, nat_le, List, [], ◌∷◌, take, drop, Option, Some, None, codes, string_bytes, if◌then◌else◌}
use Rattle.std.specs.List.{flat_map}
use Rattle.std.specs.Fmt.{decimal}
use Rattle.std.specs.Str.{bytes_eq}
use Rattle.std.specs.Str.Parse.{digits_value}
use Rattle.std.specs.declared.string.String.{String}
use Rattle.world_top.specs.declared.verb.Verb.{Verb}
use Rattle.world_top.specs.declared.verb.Verb.TheVariants.{Snapshot, Apply, Run, Graph, Pack, Unpack, Gen}

-- the most ticks that words can ask for
abbrev pub tick_count_limit : ℕ
tick_count_limit = 1000000

-- the most workers that words can ask for
abbrev pub worker_limit : ℕ
worker_limit = 16

-- the greatest number that words can name a made world by, and the most entities that they can ask for in it
abbrev pub world_number_limit : ℕ
world_number_limit = 2 ^ 32 - 1

abbrev pub entity_count_limit : ℕ
entity_count_limit = 1000000

-- the number that a word spells in decimal, without sign and without a leading zero, where it is from a least to a greatest one
abbrev pub number_between : ℕ → ℕ → List ℕ → Option ℕ
number_between least greatest word =
    let number = digits_value 10 word in
    if bytes_eq (decimal number) word && (nat_le least number && nat_le number greatest) then Some number else None

-- a run of so many ticks by so many workers, where both numbers are there
abbrev pub run_of : Option ℕ → Option ℕ → Option Verb
run_of (Some ticks) (Some workers) = Some (Run ticks workers)
run_of (Some ticks) None = None
run_of None workers = None

-- a run whose numbers these words spell
abbrev pub run_spelled : List ℕ → List ℕ → Option Verb
run_spelled ticks workers = run_of (number_between 0 tick_count_limit ticks) (number_between 1 worker_limit workers)

-- a word behind `run`: an option that `=` joins with its number counts as two words
abbrev pub apart : List ℕ → List (List ℕ)
apart word =
    if bytes_eq (take 8 word) (codes "--ticks=") then codes "--ticks" ∷ drop 8 word ∷ [] else
    if bytes_eq (take 10 word) (codes "--workers=") then codes "--workers" ∷ drop 10 word ∷ [] else word ∷ []

-- the words behind `run`, those apart that `=` joins
abbrev pub options_apart : {A : Type 0} → List (String A) → List (List ℕ)
options_apart options = flat_map (λ option. apart (string_bytes option)) options

-- the run that words behind `run` ask for: both options, in either order, each before its number
abbrev pub run_with : List (List ℕ) → Option Verb
run_with (first ∷ x ∷ second ∷ y ∷ []) =
    if bytes_eq first (codes "--ticks") && bytes_eq second (codes "--workers") then run_spelled x y else
    if bytes_eq first (codes "--workers") && bytes_eq second (codes "--ticks") then run_spelled y x else None
run_with _ = None

-- a made world run for so many ticks, where all three numbers are there
abbrev pub gen_of : Option ℕ → Option ℕ → Option ℕ → Option Verb
gen_of (Some number) (Some count) (Some ticks) = Some (Gen number count ticks)
gen_of (Some number) (Some count) None = None
gen_of (Some number) None ticks = None
gen_of None count ticks = None

-- the made world that words behind `gen` ask for: its number, its count of entities and the ticks, in this order
abbrev pub gen_with : {A : Type 0} → List (String A) → Option Verb
gen_with (number ∷ count ∷ ticks ∷ []) =
    gen_of
    (number_between 0 world_number_limit (string_bytes number))
    (number_between 0 entity_count_limit (string_bytes count))
    (number_between 0 tick_count_limit (string_bytes ticks))
gen_with _ = None

-- the command of one word, which names it
abbrev pub verb_named : List ℕ → Option Verb
verb_named name =
    if bytes_eq name (codes "snapshot") then Some Snapshot else
    if bytes_eq name (codes "apply") then Some Apply else
    if bytes_eq name (codes "graph") then Some Graph else
    if bytes_eq name (codes "pack") then Some Pack else
    if bytes_eq name (codes "unpack") then Some Unpack else None

-- the command that words are
abbrev pub verb_of : {A : Type 0} → List (String A) → Option Verb
verb_of [] = None
verb_of (word ∷ []) = verb_named (string_bytes word)
verb_of (name ∷ options) =
    if bytes_eq (string_bytes name) (codes "run") then run_with (options_apart options) else
    if bytes_eq (string_bytes name) (codes "gen") then gen_with options else None

-- whether a command reads its source to the end. `gen` does not read it
abbrev pub reads_input : Verb → Bool
reads_input Snapshot = true
reads_input Apply = true
reads_input (Run ticks workers) = true
reads_input Graph = true
reads_input Pack = true
reads_input Unpack = true
reads_input (Gen number count ticks) = false

-- the numbers of a command are such that it has an output or a cause for every input. Of the commands that words are, each is
abbrev pub IsInRange : Verb → Type 0
IsInRange Snapshot = Unit {0}
IsInRange Apply = Unit {0}
IsInRange (Run ticks workers) = Unit {0}
IsInRange Graph = Unit {0}
IsInRange Pack = Unit {0}
IsInRange Unpack = Unit {0}
IsInRange (Gen number count ticks) = (count ≤ entity_count_limit) × (ticks ≤ tick_count_limit)

-- how many workers a command has: a run those that it is told to have, and any other one
abbrev pub workers_of : Verb → ℕ
workers_of Snapshot = 1
workers_of Apply = 1
workers_of (Run ticks workers) = workers
workers_of Graph = 1
workers_of Pack = 1
workers_of Unpack = 1
workers_of (Gen number count ticks) = 1

-- a command has from 1 up to so many workers as words can ask for. Each that words are has
pub record HasWorkers (verb : Verb) : Type 0 where
  pub some : 0 < workers_of verb
  pub most : workers_of verb ≤ worker_limit
