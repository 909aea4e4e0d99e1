-- Watches of a script, as the program keeps them: recorders that are connected to a registry.
use Rattle.std.specs.Prelude.{◌≡◌, ℕ, zero, suc, ◌<◌, Some, None, if◌then◌else◌, List, [], map, length, Option, slice_get, slice_set, count_by}
use Rattle.std.specs.Option.{option_map_or}
use Rattle.entity_id.specs.declared.entity.Profile.{Profile}
use Rattle.signal_sink.specs.Hearings.{heard_lists}
use Rattle.registry.specs.Held.{Held}
use Rattle.registry.specs.Listeners.{listeners_at}
use Rattle.world_model.specs.declared.event.Event.{Event}
use Rattle.world_model.specs.declared.event.EventKind.{EventKind}
use Rattle.world_model.specs.declared.component.Decl.{Decl}
use Rattle.world_text.specs.Playing.{Watching, is_watch_of, ended, watch_lines}
use Rattle.world_top.specs.declared.watching.Watch.{Watch}

-- the events that listener number heard, and None where it was disconnected
abbrev pub heard_at : Held → EventKind → ℕ → ℕ → Option (Option (List Event))
heard_at held kind pool number = slice_get (heard_lists (listeners_at held kind pool)) number

-- a watch of the program is this watch of the script, and its recorder heard what the watch heard
pub record IsWatch (held : Held) (watch : Watch) (its : Watching) : Type 0 where
  pub kind : watch.kind ≡ its.kind
  pub pool : watch.pool ≡ its.pool
  pub stands : watch.stands ≡ its.stands
  pub events : List Event
  pub place : heard_at held its.kind its.pool watch.number ≡ Some (if its.stands then Some events else None)
  pub heard : map (λ e. e.entity) events ≡ its.heard

-- the program's watches are those of the script, one by one, each with a recorder of its own, and nobody else listens
pub record AreWatched (held : Held) (watches : List Watch) (its : List Watching) : Type 0 where
  pub counted : length watches ≡ length its
  pub each : (k : ℕ) (w : Watch) (s : Watching) → slice_get watches k ≡ Some w → slice_get its k ≡ Some s → IsWatch held w s
  pub apart : (i j : ℕ) (a b : Watch) → slice_get watches i ≡ Some a → slice_get watches j ≡ Some b → a.kind ≡ b.kind → a.pool ≡ b.pool → a.number ≡ b.number → i ≡ j
  pub listeners : (kind : EventKind) (pool : ℕ) → pool < length held.world.decls → length (listeners_at held kind pool) ≡ count_by (is_watch_of kind pool) its
  pub below : (k : ℕ) (w : Watch) → slice_get watches k ≡ Some w → w.number < length (listeners_at held w.kind w.pool)
  pub declared : (k : ℕ) (w : Watch) → slice_get watches k ≡ Some w → w.pool < length held.world.decls

-- the watches of a script once the one of this number has ended, where it stood
abbrev pub left_at : ℕ → List Watching → List Watching
left_at number its = option_map_or (λ s. if s.stands then slice_set its number (ended s) else its) (slice_get its number) its

-- what it had heard, where it stood
abbrev pub told_at : Profile → List Decl → ℕ → List Watching → List ℕ
told_at profile decls number its = option_map_or (λ s. if s.stands then watch_lines profile decls number s else []) (slice_get its number) []

-- the watches of a script once the first of them have ended, where they stood
abbrev pub left_upto : ℕ → List Watching → List Watching
left_upto zero its = its
left_upto (suc number) its = left_at number (left_upto number its)
