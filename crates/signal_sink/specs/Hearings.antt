-- What a contract sees of the listeners of a signal.
use Rattle.std.specs.Prelude.{◌≡◌, Bool, true, false, Some, slice_get, ℕ, ◌-◌, ◌≤◌, List, [], ◌∷◌, ◌++◌, map, Option, IfSome, IsSomeAnd}
use Rattle.std.specs.Option.{option_map, option_map_or}
use Rattle.world_model.specs.declared.event.Event.{Event}

-- the most listeners that a signal ever connects
abbrev pub listener_limit : ℕ
listener_limit = 8

-- what a listener heard, and for how many more events it has room
pub record Hearing : Type 0 where
  pub heard : List Event
  pub spare : ℕ

-- what is seen of a listener, where one is connected, by what it tells of itself
abbrev pub hearing_by : {L : Type 0} → (L → List Event) → (L → ℕ) → Option L → Option Hearing
hearing_by heard spare place = option_map (λ listener. record { heard = heard listener; spare = spare listener }) place

-- the same of each
abbrev pub hearings_by : {L : Type 0} → (L → List Event) → (L → ℕ) → List (Option L) → List (Option Hearing)
hearings_by heard spare places = map (hearing_by heard spare) places

-- whether a connected listener has this number
abbrev pub is_connected : List (Option Hearing) → ℕ → Bool
is_connected hearings number = option_map_or (λ place. option_map_or (λ hearing. true) place false) (slice_get hearings number) false

-- where one is connected, it has room for so many events
abbrev pub HasSpare : ℕ → Option Hearing → Type 0
HasSpare n place = IfSome place (λ hearing. n ≤ hearing.spare)

-- each that is connected has room for so many events
abbrev pub HaveSpare : ℕ → List (Option Hearing) → Type 0
HaveSpare n hearings = (number : ℕ) (hearing : Hearing) → slice_get hearings number ≡ Some (Some hearing) → n ≤ hearing.spare

-- where a listener was connected, one is, and has no less room
abbrev pub KeepsSpare : Option Hearing → Option Hearing → Type 0
KeepsSpare old new = IfSome old (λ before. IsSomeAnd new (λ after. before.spare ≤ after.spare))

-- the same of each number
abbrev pub KeepSpare : List (Option Hearing) → List (Option Hearing) → Type 0
KeepSpare old new = (number : ℕ) (hearing : Hearing) → slice_get old number ≡ Some (Some hearing) → IsSomeAnd (slice_get new number) (KeepsSpare (Some hearing))

-- ---- told of an event

-- a listener that was told of one event more
abbrev pub told : Event → Hearing → Hearing
told event hearing = record { heard = hearing.heard ++ event ∷ []; spare = hearing.spare - 1 }

-- the same of each that is connected
abbrev pub all_told : Event → List (Option Hearing) → List (Option Hearing)
all_told event hearings = map (option_map (told event)) hearings

-- the events that each heard
abbrev pub heard_lists : List (Option Hearing) → List (Option (List Event))
heard_lists hearings = map (option_map (λ hearing. hearing.heard)) hearings

-- the lists with one event more
abbrev pub heard_also : Event → List (Option (List Event)) → List (Option (List Event))
heard_also event lists = map (option_map (λ heard. heard ++ event ∷ [])) lists
