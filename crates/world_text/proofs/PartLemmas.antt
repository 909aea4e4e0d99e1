-- Which lines begin a text, by its first word.
use Rattle.std.proofs.Common.{◌≡◌, ℕ, ◌^◌, ◌<◌, Bool, true, false, List, ◌∷◌, ◌++◌, drop, get_or, codes, if◌then◌else◌, refl, sym, ap, subst, ◌∙◌, inl, arith}
use Rattle.std.specs.Prelude.{◌==◌}
use Rattle.std.specs.Fmt.{decimal}
use Rattle.std.specs.List.{flat_map}
use Rattle.entity_id.specs.Cuts.{IsCut, Lacks}
use Rattle.entity_id.proofs.CutLemmas.{same_cut, lacks_append}
use Rattle.entity_id.proofs.FrontLemmas.{same_number}
use Rattle.world_model.specs.declared.component.Decl.{Decl}
use Rattle.world_model.specs.Components.{kinds_of}
use Rattle.world_model.specs.Names.{is_name}
use Rattle.world_text.specs.declared.format.Format.{Format}
use Rattle.world_text.specs.declared.draft.Draft.{Draft}
use Rattle.world_text.specs.LineKinds.{Line, NamedGroup}
use Rattle.world_text.specs.LineKinds as line
use Rattle.row_lang.specs.Naming.{IsNamedDecl}
use Rattle.world_text.specs.Lines.{IsLine, IsNamedGroup, line_text, lists_text, kind_text, decl_text}
use Rattle.world_text.specs.Reading.{IsNumberLine, IsWordSplit}
use Rattle.world_text.specs.Drafts.{Refuses, RefusesOthers, IsNoBody}
use Rattle.world_text.proofs.WordLemmas.{same_split, name_lacks, kinds_spaced, kinds_free}
use Rattle.world_text.proofs.Tags.{tag}

-- the kind of line, beside those of systems, that begins with a byte, and 0 where none does
abbrev tag_of_byte : ℕ → ℕ
tag_of_byte byte =
    if byte == 119 then 1 else
    if byte == 99 then 2 else
    if byte == 116 then 3 else
    if byte == 108 then 4 else
    if byte == 102 then 4 else
    if byte == 110 then 5 else
    if byte == 112 then 6 else
    if byte == 114 then 7 else
    if byte == 101 then 8 else
    if byte == 103 then 9 else
    if byte == 115 then 10 else 0

-- the kind of the lines that begin a text
abbrev tag_at : List ℕ → ℕ
tag_at text = tag_of_byte (get_or text 0 0)

tag_at_slot : (live : Bool) (rest : List ℕ) → tag_at ((if live then codes "live " else codes "free ") ++ rest) ≡ 4
tag_at_slot true rest = refl
tag_at_slot false rest = refl

tag_at_free : (live : Bool) (number more : List ℕ) → tag_at (((if live then codes "live " else codes "free ") ++ number) ++ more) ≡ 4
tag_at_free true number more = refl
tag_at_free false number more = refl

tag_at_line : (format : Format) (l : Line) (more : List ℕ) → IsNoBody l → tag_at (line_text format l ++ more) ≡ tag l
tag_at_line format line.Version more no_body = refl
tag_at_line format (line.Component decl) more no_body = refl
tag_at_line format (line.Group named) more no_body = refl
tag_at_line format (line.System name) more no_body = refl
tag_at_line format (line.Body names body) more no_body = absurd no_body
tag_at_line format (line.Tick tick) more no_body = refl
tag_at_line format (line.Slot slot) more no_body = tag_at_free slot.live (decimal slot.version) more
tag_at_line format (line.Next index) more no_body = refl
tag_at_line format (line.Pool name) more no_body = refl
tag_at_line format (line.Row entity values) more no_body = refl
tag_at_line format line.End more no_body = refl

-- the kind of a line at the front of a text
tag_is : (format : Format) (text : List ℕ) (l : Line) (more : List ℕ) → IsNoBody l → text ≡ line_text format l ++ 10 ∷ more → tag_at text ≡ tag l
tag_is format text l more no_body e = ap tag_at e ∙ tag_at_line format l (10 ∷ more) no_body

-- ---- numbers

-- the front of a text is one number with the end of its line
pub same_number_line : (limit m n : ℕ) (text x y : List ℕ) → limit < 2 ^ 64 → IsNumberLine limit text m x → IsNumberLine limit text n y → m ≡ n
same_number_line limit m n text x y small a b =
    (same_number m n (10 ∷ x) (10 ∷ y) (omega (arith, a.within)) (omega (arith, b.within)) (inl (omega arith)) (inl (omega arith)) (sym a.whole ∙ b.whole)).0

version_refused : (draft : Draft) (text more : List ℕ) (l : Line) → IsNoBody l → 1 ≡ tag l → (text ≡ decimal draft.format.version ++ 10 ∷ more → Refuses draft line.Version) → codes "world " ++ text ≡ line_text draft.format l ++ 10 ∷ more → Refuses draft l
version_refused draft text more line.Version no_body kind none e = none (ap (drop 6) e)
version_refused draft text more (line.Body names body) no_body kind none e = absurd no_body
version_refused draft text more l no_body kind none e = absurd (omega arith)

-- behind the word `world` stands the format's number
pub refuses_version : (draft : Draft) (text : List ℕ) → ((more : List ℕ) → text ≡ decimal draft.format.version ++ 10 ∷ more → Refuses draft line.Version) → RefusesOthers draft (codes "world " ++ text)
refuses_version draft text none = λ l more no_body is e. version_refused draft text more l no_body (tag_is draft.format (codes "world " ++ text) l more no_body e) (none more) e

next_refused : (draft : Draft) (text more : List ℕ) (l : Line) → IsNoBody l → 5 ≡ tag l → ((index : ℕ) → index < draft.format.slot_limit → text ≡ decimal index ++ 10 ∷ more → Refuses draft (line.Next index)) → IsLine draft.format l → codes "next " ++ text ≡ line_text draft.format l ++ 10 ∷ more → Refuses draft l
next_refused draft text more (line.Next index) no_body kind none is e = none index is (ap (drop 5) e)
next_refused draft text more (line.Body names body) no_body kind none is e = absurd no_body
next_refused draft text more l no_body kind none is e = absurd (omega arith)

-- behind the word `next` stands an index
pub refuses_next : (draft : Draft) (text : List ℕ) → ((index : ℕ) (more : List ℕ) → index < draft.format.slot_limit → text ≡ decimal index ++ 10 ∷ more → Refuses draft (line.Next index)) → RefusesOthers draft (codes "next " ++ text)
refuses_next draft text none = λ l more no_body is e. next_refused draft text more l no_body (tag_is draft.format (codes "next " ++ text) l more no_body e) (λ index. none index more) is e

-- a slot's word says whether it is live, and behind it stands its version
slot_parts : (live has : Bool) (text number more : List ℕ) → (if live then codes "live " else codes "free ") ++ text ≡ ((if has then codes "live " else codes "free ") ++ number) ++ more → (live ≡ has) × (text ≡ number ++ more)
slot_parts true true text number more e = (refl, ap (drop 5) e)
slot_parts false false text number more e = (refl, ap (drop 5) e)
slot_parts true false text number more e = absurd (omega (arith, ap (λ (t : List ℕ). get_or t 0 0) e))
slot_parts false true text number more e = absurd (omega (arith, ap (λ (t : List ℕ). get_or t 0 0) e))

slot_refused : (draft : Draft) (live : Bool) (text more : List ℕ) (l : Line) → IsNoBody l → 4 ≡ tag l → ((version : ℕ) → version < draft.format.profile.version_limit → text ≡ decimal version ++ 10 ∷ more → Refuses draft (line.Slot (record { version = version; live = live }))) → IsLine draft.format l → (if live then codes "live " else codes "free ") ++ text ≡ line_text draft.format l ++ 10 ∷ more → Refuses draft l
slot_refused draft live text more (line.Slot slot) no_body kind none is e =
    let parts = slot_parts live slot.live text (decimal slot.version) (10 ∷ more) e in
    subst (λ (b : Bool). Refuses draft (line.Slot (record { version = slot.version; live = b }))) parts.0 (none slot.version is parts.1)
slot_refused draft live text more (line.Body names body) no_body kind none is e = absurd no_body
slot_refused draft live text more l no_body kind none is e = absurd (omega arith)

-- behind the word `live` or `free` stands a version
pub refuses_slot : (draft : Draft) (live : Bool) (text : List ℕ) → ((version : ℕ) (more : List ℕ) → version < draft.format.profile.version_limit → text ≡ decimal version ++ 10 ∷ more → Refuses draft (line.Slot (record { version = version; live = live }))) → RefusesOthers draft ((if live then codes "live " else codes "free ") ++ text)
refuses_slot draft live text none = λ l more no_body is e.
    slot_refused draft live text more l no_body (sym (tag_at_slot live text) ∙ tag_is draft.format ((if live then codes "live " else codes "free ") ++ text) l more no_body e) (λ version. none version more) is e

-- ---- names

pool_refused : (draft : Draft) (text more : List ℕ) (l : Line) → IsNoBody l → 6 ≡ tag l → ((name : List ℕ) → is_name name ≡ true → text ≡ name ++ 10 ∷ more → Refuses draft (line.Pool name)) → IsLine draft.format l → codes "pool " ++ text ≡ line_text draft.format l ++ 10 ∷ more → Refuses draft l
pool_refused draft text more (line.Pool name) no_body kind none is e = none name is (ap (drop 5) e)
pool_refused draft text more (line.Body names body) no_body kind none is e = absurd no_body
pool_refused draft text more l no_body kind none is e = absurd (omega arith)

-- behind the word `pool` stands a name
pub refuses_pool : (draft : Draft) (text : List ℕ) → ((name more : List ℕ) → is_name name ≡ true → text ≡ name ++ 10 ∷ more → Refuses draft (line.Pool name)) → RefusesOthers draft (codes "pool " ++ text)
refuses_pool draft text none = λ l more no_body is e. pool_refused draft text more l no_body (tag_is draft.format (codes "pool " ++ text) l more no_body e) (λ name. none name more) is e

component_refused : (draft : Draft) (text more : List ℕ) (l : Line) → IsNoBody l → 2 ≡ tag l → ((decl : Decl) → IsNamedDecl decl → text ≡ decl_text decl ++ 10 ∷ more → Refuses draft (line.Component decl)) → IsLine draft.format l → codes "component " ++ text ≡ line_text draft.format l ++ 10 ∷ more → Refuses draft l
component_refused draft text more (line.Component decl) no_body kind none is e = none decl is (ap (drop 10) e)
component_refused draft text more (line.Body names body) no_body kind none is e = absurd no_body
component_refused draft text more l no_body kind none is e = absurd (omega arith)

-- behind the word `component` stands a component
pub refuses_component : (draft : Draft) (text : List ℕ) → ((decl : Decl) (more : List ℕ) → IsNamedDecl decl → text ≡ decl_text decl ++ 10 ∷ more → Refuses draft (line.Component decl)) → RefusesOthers draft (codes "component " ++ text)
refuses_component draft text none = λ l more no_body is e. component_refused draft text more l no_body (tag_is draft.format (codes "component " ++ text) l more no_body e) (λ decl. none decl more) is e

-- a text cut at its first line end (10) begins with one name
pub name_is_front : (text front back name more : List ℕ) → IsCut text 10 front back → is_name name ≡ true → text ≡ name ++ 10 ∷ more → front ≡ name
name_is_front text front back name more cut named e =
    (same_cut 10 front name back more cut.first (name_lacks 10 refl name named) (sym cut.whole ∙ e)).0

decl_free : (decl : Decl) → IsNamedDecl decl → Lacks 10 (decl_text decl)
decl_free decl is = lacks_append 10 decl.name _ (name_lacks 10 refl decl.name is.name) (kinds_free (kinds_of decl))

-- a text cut at its first line end begins with one component
pub decl_is_front : (text front back : List ℕ) (decl : Decl) (more : List ℕ) → IsCut text 10 front back → IsNamedDecl decl → text ≡ decl_text decl ++ 10 ∷ more → front ≡ decl_text decl
decl_is_front text front back decl more cut is e =
    (same_cut 10 front (decl_text decl) back more cut.first (decl_free decl is) (sym cut.whole ∙ e)).0

-- a text that spells a component spells its name, and then its kinds
pub component_parts : (text word kinds : List ℕ) (decl : Decl) → IsWordSplit text word kinds → IsNamedDecl decl → text ≡ decl_text decl → (word ≡ decl.name) × (kinds ≡ flat_map kind_text (kinds_of decl))
component_parts text word kinds decl split is e =
    same_split word decl.name kinds (flat_map kind_text (kinds_of decl)) split.spaceless (name_lacks 32 refl decl.name is.name) split.spaced (kinds_spaced (kinds_of decl)) (sym split.whole ∙ e)

-- ---- groups

group_refused : (draft : Draft) (text more : List ℕ) (l : Line) → IsNoBody l → 9 ≡ tag l → ((named : NamedGroup) → IsNamedGroup named → text ≡ lists_text named ++ 10 ∷ more → Refuses draft (line.Group named)) → IsLine draft.format l → codes "group" ++ text ≡ line_text draft.format l ++ 10 ∷ more → Refuses draft l
group_refused draft text more (line.Group named) no_body kind none is e = none named is (ap (drop 5) e)
group_refused draft text more (line.Body names body) no_body kind none is e = absurd no_body
group_refused draft text more l no_body kind none is e = absurd (omega arith)

-- behind the word `group` stand the names of a group
pub refuses_group : (draft : Draft) (text : List ℕ) → ((named : NamedGroup) (more : List ℕ) → IsNamedGroup named → text ≡ lists_text named ++ 10 ∷ more → Refuses draft (line.Group named)) → RefusesOthers draft (codes "group" ++ text)
refuses_group draft text none = λ l more no_body is e. group_refused draft text more l no_body (tag_is draft.format (codes "group" ++ text) l more no_body e) (λ named. none named more) is e

-- ---- systems

system_refused : (draft : Draft) (text more : List ℕ) (l : Line) → IsNoBody l → 10 ≡ tag l → ((name : List ℕ) → is_name name ≡ true → text ≡ name ++ 10 ∷ more → Refuses draft (line.System name)) → IsLine draft.format l → codes "system " ++ text ≡ line_text draft.format l ++ 10 ∷ more → Refuses draft l
system_refused draft text more (line.System name) no_body kind none is e = none name is (ap (drop 7) e)
system_refused draft text more (line.Body names body) no_body kind none is e = absurd no_body
system_refused draft text more l no_body kind none is e = absurd (omega arith)

-- behind the word `system` stands a name
pub refuses_system : (draft : Draft) (text : List ℕ) → ((name more : List ℕ) → is_name name ≡ true → text ≡ name ++ 10 ∷ more → Refuses draft (line.System name)) → RefusesOthers draft (codes "system " ++ text)
refuses_system draft text none = λ l more no_body is e. system_refused draft text more l no_body (tag_is draft.format (codes "system " ++ text) l more no_body e) (λ name. none name more) is e
