-- What the lines of systems in a document stand for.
use Rattle.std.specs.Prelude.{◌≡◌, ℕ, ◌+◌, ◌≤◌, List, [], ◌∷◌, ◌++◌, Option, Some, None, sum_by}
use Rattle.std.specs.List.{flat_map}
use Rattle.std.specs.Option.{option_map_or}
use Rattle.world_model.specs.declared.component.Decl.{Decl}
use Rattle.row_lang.specs.BodyLines.{BodyLine, Close}
use Rattle.row_lang.specs.Systems.{System, Draft, begun, after_line, command_count}
use Rattle.world_text.specs.LineKinds.{Line}
use Rattle.world_text.specs.LineKinds as line
use Rattle.world_text.specs.Meaning.{decl_in}

-- how many systems a document has at most
abbrev pub system_limit : ℕ
system_limit = 64

-- how many command statements its systems have at most, all together
abbrev pub document_command_limit : ℕ
document_command_limit = 64

-- the systems whose last line stands, and what the lines of one stand for whose last line doesn't
pub record SystemsSoFar : Type 0 where
  pub closed : List System
  pub unfinished : Option Draft

-- before the first line
abbrev pub no_systems : SystemsSoFar
no_systems = record { closed = []; unfinished = None }

-- with a line more of the unfinished system: its last line closes it
abbrev pub with_body : List Decl → List System → Draft → BodyLine → SystemsSoFar
with_body decls closed draft Close = record { closed = closed ++ draft.system ∷ []; unfinished = None }
with_body decls closed draft body = record { closed = closed; unfinished = Some (after_line decls draft body) }

-- with a line more, under these components
abbrev pub with_line : List Decl → SystemsSoFar → Line → SystemsSoFar
with_line decls systems (line.System name) = record { closed = systems.closed; unfinished = Some (begun name) }
with_line decls systems (line.Body names body) = option_map_or (λ draft. with_body decls systems.closed draft body) systems.unfinished systems
with_line decls systems _ = systems

-- with more lines
abbrev pub with_lines : List Decl → SystemsSoFar → List Line → SystemsSoFar
with_lines decls systems [] = systems
with_lines decls systems (l ∷ lines) = with_lines decls (with_line decls systems l) lines

-- the systems of lines, under the components that the lines declare
abbrev pub systems_in : List Line → SystemsSoFar
systems_in lines = with_lines (flat_map decl_in lines) no_systems lines

-- how many command statements systems have, all together
abbrev pub commands_of : List System → ℕ
commands_of systems = sum_by (λ system. command_count system.statements) systems

-- how many an unfinished system has so far
abbrev pub unfinished_commands : Option Draft → ℕ
unfinished_commands unfinished = option_map_or (λ draft. command_count draft.system.statements) unfinished 0

-- how many stand so far
abbrev pub commands_so_far : SystemsSoFar → ℕ
commands_so_far systems = commands_of systems.closed + unfinished_commands systems.unfinished

-- these systems have so many command statements, the unfinished one included, and no more than a document may have
pub record IsCommandCount (closed : List System) (unfinished : Option Draft) (count : ℕ) : Type 0 where
  pub counted : count ≡ commands_of closed + unfinished_commands unfinished
  pub few : count ≤ document_command_limit
