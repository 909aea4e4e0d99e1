-- A script does the same at another tick.
use Rattle.std.proofs.Common.{◌≡◌, ℕ, Bool, true, false, List, [], ◌∷◌, ◌++◌, map, slice_get, refl, ap, ◌∙◌, arith, if◌then◌else◌, nat_lt, Option, Some, None, count_by}
use Rattle.world_model.specs.declared.command.Command.{Command}
use Rattle.world_model.specs.declared.world.World.{World}
use Rattle.world_model.specs.Steps.{step}
use Rattle.world_text.specs.declared.script.ScriptLine.{ScriptLine}
use Rattle.world_text.specs.declared.script.ScriptLine.TheVariants.{Run, Watch, Unwatch}
use Rattle.world_text.specs.Playing.{Watching, ScriptOutcome, hears, is_watch_of, watch_limit, unwatch_outcome, line_outcome, outcome_from}
use Rattle.world_text.specs.Replies.{reply_text}

-- a world at this tick
abbrev pub at_tick : ℕ → World → World
at_tick tick w = record w { tick = tick }

-- an outcome with its world at this tick
abbrev pub outcome_at : ℕ → ScriptOutcome → ScriptOutcome
outcome_at tick o = record { printed = o.printed; world = at_tick tick o.world; watches = o.watches }

pub step_reply : (limit tick : ℕ) (w : World) (c : Command) → (step limit (record w { tick = tick }) c).reply ≡ (step limit w c).reply
step_reply limit tick w c = grind arith

pub step_world : (limit tick : ℕ) (w : World) (c : Command) → (step limit (record w { tick = tick }) c).world ≡ record (step limit w c).world { tick = tick }
step_world limit tick w c = grind arith

pub step_events : (limit tick : ℕ) (w : World) (c : Command) → (step limit (record w { tick = tick }) c).events ≡ (step limit w c).events
step_events limit tick w c = grind arith

watch_either : (b : Bool) (tick : ℕ) (x y : ScriptOutcome) → (if b then outcome_at tick x else outcome_at tick y) ≡ outcome_at tick (if b then x else y)
watch_either true tick x y = refl
watch_either false tick x y = refl

unwatch_at : (tick : ℕ) (w : World) (watches : List Watching) (number : ℕ) (found : Option Watching) → unwatch_outcome (at_tick tick w) watches number found ≡ outcome_at tick (unwatch_outcome w watches number found)
unwatch_at tick w watches number None = refl
unwatch_at tick w watches number (Some watch) = watch_either watch.stands tick _ _

line_at : (limit tick : ℕ) (w : World) (watches : List Watching) (line : ScriptLine) → line_outcome limit (at_tick tick w) watches line ≡ outcome_at tick (line_outcome limit w watches line)
line_at limit tick w watches (Run c) = λ i. record {
  printed = reply_text w.profile w.decls c (step_reply limit tick w c i) ++ 10 ∷ [];
  world = step_world limit tick w c i;
  watches = map (hears (step_events limit tick w c i)) watches;
}
line_at limit tick w watches (Watch kind pool) = watch_either (nat_lt (count_by (is_watch_of kind pool) watches) watch_limit) tick _ _
line_at limit tick w watches (Unwatch number) = unwatch_at tick w watches number (slice_get watches number)

-- what a first outcome and the lines behind it give
abbrev followed : ℕ → ScriptOutcome → List ScriptLine → ScriptOutcome
followed limit now lines =
    let later = outcome_from limit now.world now.watches lines in
    record { printed = now.printed ++ later.printed; world = later.world; watches = later.watches }

-- at another tick the lines print the same, and leave the same at that tick
pub outcome_at_tick : (limit tick : ℕ) (w : World) (watches : List Watching) (lines : List ScriptLine) → outcome_from limit (at_tick tick w) watches lines ≡ outcome_at tick (outcome_from limit w watches lines)
outcome_at_tick limit tick w watches [] = refl
outcome_at_tick limit tick w watches (line ∷ lines) =
    let now = line_outcome limit w watches line in
    ap (λ o. followed limit o lines) (line_at limit tick w watches line)
    ∙ ap (λ (later : ScriptOutcome). record { printed = now.printed ++ later.printed; world = later.world; watches = later.watches }) (outcome_at_tick limit tick now.world now.watches lines)
