-- Worked scripts with owning groups and sorts, computed: how their lines are spelled, and what they print.
use Rattle.std.proofs.Common.{◌≡◌, ℕ, List, [], ◌∷◌, codes, refl, replicate}
use Rattle.std.specs.Fmt.{digits}
use Rattle.entity_id.specs.Identifiers.{p20_12}
use Rattle.world_model.specs.declared.command.Command.TheVariants.{Emplace, Remove, Erase, View, Group, Members, SortPool, SortGroup}
use Rattle.world_model.specs.declared.group.GroupDecl.{GroupDecl}
use Rattle.world_text.specs.declared.document.Document.{Document}
use Rattle.world_text.specs.declared.script.ScriptLine.{ScriptLine}
use Rattle.world_text.specs.declared.script.ScriptLine.TheVariants.{Run}
use Rattle.world_text.specs.Formats.{version_1}
use Rattle.world_text.specs.Playing.{script_outcome, scripted_text}
use Rattle.world_text.specs.Scripts.{begun_text}
use Rattle.world_text.proofs.WorkedScripts.{id, ints, row, live, of, four_components}

abbrev lists : List ℕ → List ℕ → List ℕ → GroupDecl
lists own get without = record { own = own; get = get; without = without }

-- a document with these groups
abbrev with_groups : Document → List GroupDecl → Document
with_groups document groups = record document { world = record document.world { groups = groups } }

-- what a script prints before its document
abbrev printed : Document → List ScriptLine → List ℕ
printed document script = (script_outcome version_1.slot_limit document.world script).printed

-- ---- members

abbrev moving : Document
moving = with_groups four_components (lists (0 ∷ 1 ∷ []) (2 ∷ []) (3 ∷ []) ∷ [])

abbrev members_come_and_go : List ScriptLine
members_come_and_go =
    Run (Emplace (id 0 0) 0 (row 1)) ∷ Run (Emplace (id 0 0) 1 (row 1)) ∷ Run (Members 0) ∷ Run (Emplace (id 0 0) 2 (row 9)) ∷ Run (Members 0)
    ∷ Run (Emplace (id 1 0) 2 (row 8)) ∷ Run (Emplace (id 1 0) 1 (row 2)) ∷ Run (Emplace (id 1 0) 0 (row 2)) ∷ Run (Emplace (id 2 0) 3 (row 0))
    ∷ Run (Emplace (id 2 0) 1 (row 3)) ∷ Run (Emplace (id 2 0) 2 (row 7)) ∷ Run (Emplace (id 2 0) 0 (row 3)) ∷ Run (Members 0) ∷ Run (Remove (id 2 0) 3) ∷ Run (Members 0)
    ∷ Run (Erase (id 0 0) 2) ∷ Run (Members 0) ∷ []

pub who_is_in_the_group : printed moving members_come_and_go
    ≡ codes "ok\nok\nmembers\nok\nmembers 0:0\nok\nok\nok\nok\nok\nok\nok\nmembers 0:0 1:0\nremoved 1\nmembers 0:0 1:0 2:0\nok\nmembers 1:0 2:0\n"
unfolding digits
who_is_in_the_group = refl

-- the longest form of a group's line, with names in another order than that of the components
pub a_group_in_a_line : begun_text p20_12 moving.world.decls (Run (Group (lists (1 ∷ 0 ∷ []) (2 ∷ []) (3 ∷ []))) ∷ Run (Group (lists (2 ∷ []) [] (0 ∷ []))) ∷ [])
    ≡ codes "script\ngroup own velocity position get health not frozen\ngroup own health not position\n"
a_group_in_a_line = refl

-- ---- nested groups

abbrev nested : Document
nested = with_groups (of (ints (codes "a") 1 ∷ ints (codes "b") 0 ∷ ints (codes "c") 0 ∷ ints (codes "d") 0 ∷ []) (live ∷ [])) (lists (0 ∷ []) [] [] ∷ lists (0 ∷ 1 ∷ []) [] [] ∷ lists (0 ∷ 1 ∷ 2 ∷ []) [] [] ∷ [])

-- the last line names its components in this order
abbrev in_nested : List ℕ → List ScriptLine
in_nested order =
    Run (Emplace (id 0 0) 0 (row 5)) ∷ Run (Emplace (id 0 0) 2 (row 0)) ∷ Run (Emplace (id 0 0) 1 (row 0)) ∷ Run (Members 0) ∷ Run (Members 1) ∷ Run (Members 2)
    ∷ Run (Remove (id 0 0) 0) ∷ Run (Members 0) ∷ Run (Members 2) ∷ Run (Group (lists (0 ∷ 3 ∷ []) [] [])) ∷ Run (SortGroup 0 0 0) ∷ Run (SortPool 0 0) ∷ Run (Members 7)
    ∷ Run (Group (lists order [] [])) ∷ []

pub lines_in_nested : begun_text p20_12 nested.world.decls (in_nested (1 ∷ 0 ∷ []))
    ≡ codes "script\nemplace 0:0 a 5\nemplace 0:0 c\nemplace 0:0 b\nmembers 0\nmembers 1\nmembers 2\nremove 0:0 a\nmembers 0\nmembers 2\ngroup own a d\nsort group 0 a.0\nsort pool a.0\nmembers 7\ngroup own b a\n"
unfolding digits
lines_in_nested = refl

pub replies_in_nested : scripted_text nested (in_nested (0 ∷ 1 ∷ []))
    ≡ codes "ok\nok\nok\nmembers 0:0\nmembers 0:0\nmembers 0:0\nremoved 1\nmembers\nmembers\nconflict 1\ninner 1\nowned 0\nno group\ngroup 1\nworld 1\ncomponent a int\ncomponent b\ncomponent c\ncomponent d\ngroup own a\ngroup own a b\ngroup own a b c\ntick 0\nlive 0\npool a\npool b\nrow 0:0\npool c\nrow 0:0\npool d\nend\n"
unfolding digits
replies_in_nested = refl

-- ---- sorts

abbrev with_rows : Document
with_rows = record {
  world = record (of (ints (codes "k") 1 ∷ ints (codes "m") 0 ∷ []) (live ∷ live ∷ live ∷ live ∷ [])).world {
    pools = ((id 0 0, row 3) ∷ (id 1 0, row 1) ∷ (id 2 0, row 1) ∷ (id 3 0, row 2) ∷ []) ∷ ((id 2 0, row 0) ∷ []) ∷ [];
  };
  systems = [];
}

abbrev sorted_and_grouped : List ScriptLine
sorted_and_grouped =
    Run (SortPool 0 0) ∷ Run (View (0 ∷ []) []) ∷ Run (View (0 ∷ []) (1 ∷ [])) ∷ Run (View (0 ∷ 1 ∷ []) []) ∷ Run (Group (lists (0 ∷ 1 ∷ []) [] [])) ∷ Run (Members 0) ∷ Run (SortGroup 0 0 0) ∷ []

pub lists_in_order : printed with_rows sorted_and_grouped
    ≡ codes "sorted 1:0 2:0 3:0 0:0\nview 0:0 1:0 2:0 3:0\nview 0:0 1:0 3:0\nview 2:0\ngroup 0\nmembers 2:0\nsorted 2:0\n"
unfolding digits
lists_in_order = refl

-- ---- groups that may not be added

-- the words of the refusals: a component in two of the lists, and more than eight components; the line of each can be written
abbrev nine : Document
nine = of (replicate 9 (ints (codes "x") 0)) []

pub no_such_groups : printed nine (Run (Group (lists (0 ∷ []) (0 ∷ []) [])) ∷ Run (Group (lists (0 ∷ 1 ∷ 2 ∷ []) (3 ∷ 4 ∷ 5 ∷ []) (6 ∷ 7 ∷ 8 ∷ []))) ∷ [])
    ≡ codes "bad\nbad\n"
no_such_groups = refl
