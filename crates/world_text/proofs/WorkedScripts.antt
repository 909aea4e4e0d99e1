-- Worked scripts, computed: what their lines print, what watches hear, and the document that is left.
use Rattle.std.proofs.Common.{◌≡◌, ℕ, true, List, [], ◌∷◌, pos, codes, refl, replicate, length}
use Rattle.std.specs.Fmt.{digits}
use Rattle.entity_id.specs.declared.entity.Entity.{Entity}
use Rattle.entity_id.specs.Identifiers.{p20_12, null}
use Rattle.world_model.specs.declared.command.Command.TheVariants.{Create, Hint, Destroy, Emplace, EmplaceOrReplace, Replace, Patch, Remove, Erase, Clear, Get, AllOf, AnyOf, Orphan, Alive, Size}
use Rattle.world_model.specs.declared.component.Decl.{Decl}
use Rattle.world_model.specs.declared.component.Kind.TheVariants.{Int}
use Rattle.world_model.specs.declared.component.Row.{Row}
use Rattle.world_model.specs.declared.event.EventKind.TheVariants as event
use Rattle.world_model.specs.declared.slot.Slot.{Slot}
use Rattle.world_text.specs.declared.document.Document.{Document}
use Rattle.world_text.specs.declared.script.ScriptLine.{ScriptLine}
use Rattle.world_text.specs.declared.script.ScriptLine.TheVariants.{Run, Watch, Unwatch}
use Rattle.world_text.specs.Playing.{scripted_text}
use Rattle.world_text.specs.Scripts.{begun_text}

abbrev pub id : ℕ → ℕ → Entity
id index version = record { index = index; version = version }

-- a component of so many whole numbers
abbrev pub ints : List ℕ → ℕ → Decl
ints name count = record { name = name; count = count; kinds = Int ∷ Int ∷ Int ∷ Int ∷ [] }

abbrev pub row : ℕ → Row
row value = record { f = pos value ∷ pos 0 ∷ pos 0 ∷ pos 0 ∷ [] }

abbrev pub live : Slot
live = record { version = 0; live = true }

-- a document without rows
abbrev pub of : List Decl → List Slot → Document
of decls slots = record {
  world = record { profile = p20_12; decls = decls; groups = []; tick = 0; slots = slots; free = []; pools = replicate (length decls) [] };
  systems = [];
}

-- ---- rows

abbrev one_int : Document
one_int = of (ints (codes "a") 1 ∷ []) (live ∷ [])

abbrev rows_come_and_go : List ScriptLine
rows_come_and_go =
    Run (Emplace (id 0 0) 0 (row 4)) ∷ Run (Emplace (id 0 0) 0 (row 5)) ∷ Run (Get (id 0 0) 0) ∷ Run (Replace (id 0 0) 0 (row 6)) ∷ Run (Patch (id 0 0) 0 0 (pos 7))
    ∷ Run (Get (id 0 0) 0) ∷ Run (Remove (id 0 0) 0) ∷ Run (Replace (id 0 0) 0 (row 1)) ∷ Run (Remove (id 0 0) 0) ∷ Run (Erase (id 0 0) 0) ∷ Run (Orphan (id 0 0))
    ∷ Run (EmplaceOrReplace (id 0 0) 0 (row 2)) ∷ Run (AllOf (id 0 0) (0 ∷ [])) ∷ Run (AnyOf (id 9 0) (0 ∷ [])) ∷ Run (Clear 0) ∷ Run Alive ∷ Run Size ∷ []

pub their_lines : begun_text p20_12 one_int.world.decls rows_come_and_go
    ≡ codes "script\nemplace 0:0 a 4\nemplace 0:0 a 5\nget 0:0 a\nreplace 0:0 a 6\npatch 0:0 a.0 7\nget 0:0 a\nremove 0:0 a\nreplace 0:0 a 1\nremove 0:0 a\nerase 0:0 a\norphan 0:0\nemplace_or_replace 0:0 a 2\nall_of 0:0 a\nany_of 9:0 a\nclear a\nalive\nsize\n"
unfolding digits
their_lines = refl

pub their_replies : scripted_text one_int rows_come_and_go
    ≡ codes "ok\npresent\nrow 4\nok\nok\nrow 7\nremoved 1\nabsent\nremoved 0\nabsent\nyes\nok\nyes\ndead\ncleared 1\nalive 1\nsize 1\nworld 1\ncomponent a int\ntick 0\nlive 0\npool a\nend\n"
unfolding digits
their_replies = refl

-- ---- hints

abbrev hints : List ScriptLine
hints = Run (Hint (id 4 7)) ∷ Run (Hint (id 4 0)) ∷ Run (Hint (id 1 5)) ∷ Run (Hint (null p20_12)) ∷ Run (Hint (id 9 4095)) ∷ Run Create ∷ []

pub a_hint_is_met_or_creates : scripted_text (of [] []) hints
    ≡ codes "entity 4:7\nentity 3:0\nentity 1:5\nentity 2:0\nentity 0:0\nentity 5:0\nworld 1\ntick 0\nlive 0\nlive 5\nlive 0\nlive 0\nlive 7\nlive 0\nend\n"
unfolding digits
a_hint_is_met_or_creates = refl

-- ---- watches

abbrev pub four_components : Document
four_components = of (ints (codes "position") 1 ∷ ints (codes "velocity") 1 ∷ ints (codes "health") 1 ∷ ints (codes "frozen") 0 ∷ []) (live ∷ live ∷ live ∷ [])

abbrev watched_destruction : List ScriptLine
watched_destruction =
    Watch event.Destroy 0 ∷ Watch event.Destroy 3 ∷ Run (Emplace (id 0 0) 0 (row 1)) ∷ Run (Emplace (id 0 0) 1 (row 2)) ∷ Run (Emplace (id 0 0) 2 (row 3)) ∷ Run (Emplace (id 0 0) 3 (row 0))
    ∷ Run (Destroy (id 0 0)) ∷ Unwatch 1 ∷ Unwatch 1 ∷ []

pub what_the_watches_heard : scripted_text four_components watched_destruction
    ≡ codes "watch 0\nwatch 1\nok\nok\nok\nok\nok\nunwatched 1\nheard 1 destroy frozen 0:0\nunknown\nheard 0 destroy position 0:0\nworld 1\ncomponent position int\ncomponent velocity int\ncomponent health int\ncomponent frozen\ntick 0\nfree 1\nlive 0\nlive 0\nnext 0\npool position\npool velocity\npool health\npool frozen\nend\n"
unfolding digits
what_the_watches_heard = refl

abbrev nine_watches : List ScriptLine
nine_watches =
    Watch event.Update 0 ∷ Watch event.Update 0 ∷ Watch event.Update 0 ∷ Watch event.Update 0 ∷ Watch event.Update 0 ∷ Watch event.Update 0 ∷ Watch event.Update 0
    ∷ Watch event.Update 0 ∷ Unwatch 0 ∷ Watch event.Update 0 ∷ Watch event.Construct 0 ∷ Unwatch 8 ∷ Unwatch 9 ∷ []

-- an ended watch counts for the limit, and a refused one has no number
pub eight_watches_ever : scripted_text one_int nine_watches
    ≡ codes "watch 0\nwatch 1\nwatch 2\nwatch 3\nwatch 4\nwatch 5\nwatch 6\nwatch 7\nunwatched 0\ntoo many\nwatch 8\nunwatched 0\nunknown\nworld 1\ncomponent a int\ntick 0\nlive 0\npool a\nend\n"
unfolding digits
eight_watches_ever = refl
