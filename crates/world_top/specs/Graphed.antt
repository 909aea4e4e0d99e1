-- What `graph` prints: each system, and those that it waits for.
use Rattle.std.specs.Prelude.{ℕ, suc, ◌==◌, List, [], ◌∷◌, ◌++◌, length, map, filter, codes}
use Rattle.std.specs.Fmt.{decimal}
use Rattle.std.specs.List.{flat_map}
use Rattle.access_graph.specs.declared.edge.Edge.{Edge}
use Rattle.row_lang.specs.Systems.{System}
use Rattle.world_model.specs.declared.access.Access.{Access}

-- what each system uses, and how
abbrev pub accesses_of : List System → List Access
accesses_of systems = map (λ system. system.access) systems

-- the systems from which an edge leads to this one
abbrev pub sources : List Edge → ℕ → List ℕ
sources edges system = map (λ edge. edge.from) (filter (λ edge. edge.to == system) edges)

-- a number behind a space (32)
abbrev pub spaced : ℕ → List ℕ
spaced number = 32 ∷ decimal number

-- what a system waits for
abbrev pub waits_text : List ℕ → List ℕ
waits_text [] = codes " top"
waits_text (system ∷ systems) = codes " after" ++ flat_map spaced (system ∷ systems)

-- the line of the system of this number, with its end (10)
abbrev pub task_line : ℕ → List ℕ → List ℕ → List ℕ
task_line number name waits = codes "task" ++ spaced number ++ 32 ∷ name ++ waits_text waits ++ 10 ∷ []

-- the lines of systems, of which the first has this number
abbrev pub task_lines : List Edge → ℕ → List System → List ℕ
task_lines edges number [] = []
task_lines edges number (system ∷ systems) = task_line number system.name (sources edges number) ++ task_lines edges (suc number) systems

-- the text of systems and of the edges among them: a line for each system, and one that counts the edges
abbrev pub graph_text : List System → List Edge → List ℕ
graph_text systems edges = task_lines edges 0 systems ++ codes "edges" ++ spaced (length edges) ++ 10 ∷ []
