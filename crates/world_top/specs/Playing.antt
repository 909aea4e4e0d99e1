-- How far a script was played on a registry.
use Rattle.std.specs.Prelude.{◌≡◌, ℕ, ◌+◌, List, [], ◌++◌, length}
use Rattle.entity_id.specs.Identifiers.{p20_12}
use Rattle.registry.specs.Held.{Held}
use Rattle.world_model.specs.declared.component.Decl.{Decl}
use Rattle.world_model.specs.declared.world.World.{World}
use Rattle.world_text.specs.declared.fault.TextRefused.{TextRefused}
use Rattle.world_text.specs.declared.fault.TextRefused.TheVariants as refused
use Rattle.world_text.specs.declared.script.ScriptLine.{ScriptLine}
use Rattle.world_text.specs.Playing.{ScriptOutcome, Watching, line_outcome, outcome_from, last_heard}
use Rattle.world_text.specs.Scripts.{IsBegun}
use Rattle.world_top.specs.declared.watching.Watch.{Watch}
use Rattle.world_top.specs.Watched.{AreWatched}

-- the registry and the program's watches are at an outcome, which was printed behind this
pub record IsAt (limit : ℕ) (new : Held) (watches : List Watch) (before after : List ℕ) (outcome : ScriptOutcome) : Type 0 where
  pub limit_is : new.limit ≡ limit
  pub world_is : new.world ≡ outcome.world
  pub watched : AreWatched new watches outcome.watches
  pub printed : after ≡ before ++ outcome.printed

-- a line was played, whatever watches the program's were
abbrev pub Plays : Held → Held → List Watch → List Watch → List ℕ → List ℕ → ScriptLine → Type 0
Plays old new watches_before watches before after line =
    (its : List Watching) → AreWatched old watches_before its → IsAt old.limit new watches before after (line_outcome old.limit old.world its line)

-- lines were played on a registry that nobody listened to: the world that they leave, and what they print, with what the watches heard
-- that still stand
pub record IsPlayed (old : Held) (world : World) (before after : List ℕ) (lines : List ScriptLine) : Type 0 where
  pub world_is : world ≡ (outcome_from old.limit old.world [] lines).world
  pub printed : after ≡ before ++ ((outcome_from old.limit old.world [] lines).printed ++ last_heard world (outcome_from old.limit old.world [] lines).watches)

-- a script was played so far on a registry that nobody listened to: this many lines of it, behind which this stands
pub record IsPlayedTo (old new : Held) (watches : List Watch) (before after : List ℕ) (decls : List Decl) (bytes : List ℕ) (count : ℕ) (rest : List ℕ) : Type 0 where
  pub lines : List ScriptLine
  pub counted : count ≡ length lines
  pub begun : IsBegun p20_12 decls bytes lines rest
  pub at : IsAt old.limit new watches before after (outcome_from old.limit old.world [] lines)

-- the greatest number of a line that there is
abbrev pub line_limit : ℕ
line_limit = 18446744073709551615

-- a refusal of the text behind this many lines, with its line counted from the first of them
abbrev pub behind_lines : ℕ → TextRefused → TextRefused
behind_lines lines (refused.BadLine line) = refused.BadLine (lines + line)
behind_lines lines refused.OutOfMemory = refused.OutOfMemory
