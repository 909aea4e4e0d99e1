-- What a command means, refused or not, and what commands mean one after another.
use Rattle.std.specs.Prelude.{ℕ, Bool, true, false, ◌&&◌, ◌==◌, List, [], ◌∷◌, ◌++◌, filter, Option, Some, None}
use Rattle.world_model.specs.declared.command.Command.{Command}
use Rattle.world_model.specs.declared.command.Reply.{Reply}
use Rattle.world_model.specs.declared.command.Reply.TheVariants.{Refused}
use Rattle.world_model.specs.declared.event.Event.{Event}
use Rattle.world_model.specs.declared.event.EventKind.{EventKind}
use Rattle.world_model.specs.declared.event.EventKind.TheVariants as event
use Rattle.world_model.specs.declared.refusal.Refusal.{Refusal}
use Rattle.world_model.specs.declared.world.World.{World}
use Rattle.world_model.specs.Outcomes.{Outcome, answers, outcome_of}
use Rattle.world_model.specs.Refusing.{refusal_of}

-- a refused command leaves the world
abbrev pub unless_refused : World → Option Refusal → Outcome → Outcome
unless_refused w (Some cause) outcome = answers w (Refused cause)
unless_refused w None outcome = outcome

-- what a command gives, with at most this many slots
abbrev pub step : ℕ → World → Command → Outcome
step limit w command = unless_refused w (refusal_of limit w command) (outcome_of limit w command)

-- what commands give one after another: the replies, the last world and all events
pub record Run : Type 0 where
  pub replies : List Reply
  pub world : World
  pub events : List Event

-- commands one after another
abbrev pub run : ℕ → World → List Command → Run
run limit w [] = record { replies = []; world = w; events = [] }
run limit w (command ∷ commands) =
    let now = step limit w command in
    let later = run limit now.world commands in
    record { replies = now.reply ∷ later.replies; world = later.world; events = now.events ++ later.events }

-- whether two kinds of events are the same
abbrev pub is_same_kind : EventKind → EventKind → Bool
is_same_kind event.Construct event.Construct = true
is_same_kind event.Update event.Update = true
is_same_kind event.Destroy event.Destroy = true
is_same_kind _ _ = false

-- the events that a listener of this kind and component hears
abbrev pub heard_by : EventKind → ℕ → List Event → List Event
heard_by kind pool events = filter (λ e. is_same_kind e.kind kind && (e.pool == pool)) events
