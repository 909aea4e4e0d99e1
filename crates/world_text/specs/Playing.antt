-- What a script does: what it prints, and the document that it leaves.
use Rattle.std.specs.Prelude.{ℕ, ◌+◌, ◌&&◌, ◌==◌, Bool, true, false, nat_lt, List, [], ◌∷◌, ◌++◌, map, length, slice_get, slice_set, count_by, Option, Some, None, if◌then◌else◌}
use Rattle.entity_id.specs.declared.entity.Entity.{Entity}
use Rattle.entity_id.specs.declared.entity.Profile.{Profile}
use Rattle.world_model.specs.declared.component.Decl.{Decl}
use Rattle.world_model.specs.declared.event.Event.{Event}
use Rattle.world_model.specs.declared.event.EventKind.{EventKind}
use Rattle.world_model.specs.declared.refusal.Refusal.TheVariants as refusal
use Rattle.world_model.specs.declared.world.World.{World}
use Rattle.world_model.specs.Steps.{step, is_same_kind, heard_by}
use Rattle.world_text.specs.declared.document.Document.{Document}
use Rattle.world_text.specs.declared.script.ScriptLine.{ScriptLine}
use Rattle.world_text.specs.declared.script.ScriptLine.TheVariants.{Run, Watch, Unwatch}
use Rattle.world_text.specs.Documents.{text}
use Rattle.world_text.specs.Formats.{version_1}
use Rattle.world_text.specs.Replies.{refusal_text, reply_text, watched_text, unwatched_text, heard_text}

-- ---- watches

-- how many watches of one kind and component a script may begin, whether they have ended or not
abbrev pub watch_limit : ℕ
watch_limit = 8

-- a watch that a script began: its kind and component, the entities of the events of that kind and component since, in the order in which
-- they came, and whether it still stands
pub record Watching : Type 0 where
  pub kind : EventKind
  pub pool : ℕ
  pub heard : List Entity
  pub stands : Bool

-- a watch that begins
abbrev pub new_watch : EventKind → ℕ → Watching
new_watch kind pool = record { kind = kind; pool = pool; heard = []; stands = true }

-- whether a watch is of this kind and component
abbrev pub is_watch_of : EventKind → ℕ → Watching → Bool
is_watch_of kind pool watch = is_same_kind watch.kind kind && (watch.pool == pool)

-- a watch that stands hears events
abbrev pub hears : List Event → Watching → Watching
hears events watch =
    if watch.stands then record watch { heard = watch.heard ++ map (λ e. e.entity) (heard_by watch.kind watch.pool events) } else watch

-- a watch that ends
abbrev pub ended : Watching → Watching
ended watch = record watch { stands = false }

-- what a watch of this number has heard, a line for each event
abbrev pub watch_lines : Profile → List Decl → ℕ → Watching → List ℕ
watch_lines profile decls number watch = heard_text profile decls number watch.kind watch.pool watch.heard

-- what those that still stand have heard, by ascending number; number is that of the first
abbrev pub standing_lines : Profile → List Decl → ℕ → List Watching → List ℕ
standing_lines profile decls number [] = []
standing_lines profile decls number (watch ∷ watches) =
    (if watch.stands then watch_lines profile decls number watch else []) ++ standing_lines profile decls (number + 1) watches

-- ---- lines one after another

-- what lines of a script give: what they print, the world behind them, and the watches that were begun by then, in order
pub record ScriptOutcome : Type 0 where
  pub printed : List ℕ
  pub world : World
  pub watches : List Watching

-- what a `watch` line gives: the number of the watch that it begins, or a refusal where too many of this kind and component were begun
abbrev pub watch_outcome : World → List Watching → EventKind → ℕ → ScriptOutcome
watch_outcome w watches kind pool =
    if nat_lt (count_by (is_watch_of kind pool) watches) watch_limit
    then record { printed = watched_text (length watches) ++ 10 ∷ []; world = w; watches = watches ++ new_watch kind pool ∷ [] }
    else record { printed = refusal_text refusal.TooMany ++ 10 ∷ []; world = w; watches = watches }

-- how an `unwatch` line ends a watch, where it stands: how many events it has heard, and a line for each of them
abbrev pub unwatch_found : World → List Watching → ℕ → Watching → ScriptOutcome
unwatch_found w watches number watch =
    if watch.stands
    then record {
      printed = (unwatched_text (length watch.heard) ++ 10 ∷ []) ++ watch_lines w.profile w.decls number watch;
      world = w;
      watches = slice_set watches number (ended watch);
    }
    else record { printed = refusal_text refusal.Unknown ++ 10 ∷ []; world = w; watches = watches }

-- what an `unwatch` line gives; a number that no watch has is unknown
abbrev pub unwatch_outcome : World → List Watching → ℕ → Option Watching → ScriptOutcome
unwatch_outcome w watches number None = record { printed = refusal_text refusal.Unknown ++ 10 ∷ []; world = w; watches = watches }
unwatch_outcome w watches number (Some watch) = unwatch_found w watches number watch

-- what one line gives, with at most this many slots
abbrev pub line_outcome : ℕ → World → List Watching → ScriptLine → ScriptOutcome
line_outcome limit w watches (Run command) =
    let now = step limit w command in
    record { printed = reply_text w.profile w.decls command now.reply ++ 10 ∷ []; world = now.world; watches = map (hears now.events) watches }
line_outcome limit w watches (Watch kind pool) = watch_outcome w watches kind pool
line_outcome limit w watches (Unwatch number) = unwatch_outcome w watches number (slice_get watches number)

-- what lines give one after another
abbrev pub outcome_from : ℕ → World → List Watching → List ScriptLine → ScriptOutcome
outcome_from limit w watches [] = record { printed = []; world = w; watches = watches }
outcome_from limit w watches (line ∷ lines) =
    let now = line_outcome limit w watches line in
    let later = outcome_from limit now.world now.watches lines in
    record { printed = now.printed ++ later.printed; world = later.world; watches = later.watches }

-- what the lines of a script give, before which nothing is watched
abbrev pub script_outcome : ℕ → World → List ScriptLine → ScriptOutcome
script_outcome limit w lines = outcome_from limit w [] lines

-- ---- whole scripts

-- the document that a script leaves
abbrev pub document_after : Document → List ScriptLine → Document
document_after document script = record document { world = (script_outcome version_1.slot_limit document.world script).world }

-- what the watches that stand at the end of a script have heard
abbrev pub last_heard : World → List Watching → List ℕ
last_heard w watches = standing_lines w.profile w.decls 0 watches

-- what is printed for a document and a script: what the script's lines print, what the watches that still stand have heard, and the
-- canonical text of the document that it leaves
abbrev pub scripted_text : Document → List ScriptLine → List ℕ
scripted_text document script =
    let outcome = script_outcome version_1.slot_limit document.world script in
    outcome.printed ++ (last_heard outcome.world outcome.watches ++ text (document_after document script))
