-- The printed lines stand for the world that was printed.
use Rattle.std.proofs.Common.{◌≡◌, ℕ, true, List, [], ◌∷◌, ◌++◌, map, get_or, refl, sym, ap, ◌∙◌}
use Rattle.std.specs.List.{flat_map, zip, AllZip, AllByRecursion}
use Rattle.std.proofs.lemmas.List.{append-nil, append_assoc}
use Rattle.std.proofs.lemmas.Grind.{flat_map-append}
use Rattle.entity_id.specs.declared.entity.Profile.{Profile}
use Rattle.entity_id.specs.declared.entity.Entity.{Entity}
use Rattle.world_model.specs.declared.component.Decl.{Decl}
use Rattle.world_model.specs.declared.component.Row.{Row}
use Rattle.world_model.specs.declared.group.GroupDecl.{GroupDecl}
use Rattle.world_model.specs.declared.slot.Slot.{Slot}
use Rattle.world_model.specs.Components.{IsDecl, IsRow}
use Rattle.world_model.specs.Components as components
use Rattle.world_model.specs.Worlds.{IsLawful, AreLawfulRows}
use Rattle.row_lang.specs.BodyLines.{BodyLine}
use Rattle.row_lang.specs.Naming.{names_of}
use Rattle.row_lang.specs.Systems.{System, body_lines}
use Rattle.world_text.specs.declared.format.Format.{Format}
use Rattle.world_text.specs.declared.document.Document.{Document}
use Rattle.world_text.specs.LineKinds.{Line}
use Rattle.world_text.specs.LineKinds as line
use Rattle.world_text.specs.Meaning.{decl_in, group_in, group_of, groups_in, tick_in, slot_in, next_in, rows_in, pools_in, world_of}
use Rattle.world_text.specs.Documents.{named_of, group_line, system_lines, row_line, pool_lines, lines_of}
use Rattle.world_text.specs.SystemLines.{SystemsSoFar, no_systems, with_lines, systems_in}
use Rattle.world_text.proofs.GroupLemmas.{IsSaid}
use Rattle.world_text.proofs.MeaningLemmas.{IsBesidePools}
use Rattle.world_text.proofs.PrintedSystems.{AreCanonical, closed_only, none_in_systems, systems_close}
use Rattle.world_text.proofs.PrintedSystems as printed
use Rattle.world_text.proofs.PrintedValues.{row_kept}

-- ---- parts that are lists

-- the lines of one kind hold nothing of another
pub none_in : {X Y : Type 0} (f : Line → List Y) (g : X → Line) → ((x : X) → f (g x) ≡ []) → (xs : List X) → flat_map f (map g xs) ≡ []
none_in f g h [] = refl
none_in f g h (x ∷ xs) = ap (λ ys. ys ++ flat_map f (map g xs)) (h x) ∙ none_in f g h xs

-- the lines of one kind hold what they were made from
pub each_in : {X : Type 0} (f : Line → List X) (g : X → Line) → ((x : X) → f (g x) ≡ x ∷ []) → (xs : List X) → flat_map f (map g xs) ≡ xs
each_in f g h [] = refl
each_in f g h (x ∷ xs) = ap (λ ys. ys ++ flat_map f (map g xs)) (h x) ∙ ap (λ ys. x ∷ ys) (each_in f g h xs)

-- the lines of pools hold nothing but pools and rows
none_in_pools : {Y : Type 0} (f : Line → List Y) → ((name : List ℕ) → f (line.Pool name) ≡ []) → ((profile : Profile) (decl : Decl) (entry : Entity × Row) → f (row_line profile decl entry) ≡ []) → (profile : Profile) (pools : List (Decl × List (Entity × Row))) → flat_map f (flat_map (pool_lines profile) pools) ≡ []
none_in_pools f no_pool no_row profile [] = refl
none_in_pools f no_pool no_row profile (pool ∷ pools) =
    flat_map-append f (pool_lines profile pool) (flat_map (pool_lines profile) pools)
    ∙ (λ i. (no_pool pool.0.name i ++ none_in f (row_line profile pool.0) (no_row profile pool.0) pool.1 i) ++ none_in_pools f no_pool no_row profile pools i)

-- all the lines, one list behind another
abbrev pub flat_lines : Document → List Line
flat_lines d =
    let w = d.world in
    line.Version ∷ (map line.Component w.decls ++ (map (group_line w.decls) w.groups ++ (flat_map (system_lines w.decls) d.systems ++ (line.Tick w.tick ∷ (map line.Slot w.slots ++ (map line.Next w.free ++ (flat_map (pool_lines w.profile) (zip w.decls w.pools) ++ line.End ∷ [])))))))

pub lines_flat : (d : Document) → flat_lines d ≡ lines_of d
lines_flat d =
    let w = d.world in
    let groups = map (group_line w.decls) w.groups in
    let systems = flat_map (system_lines w.decls) d.systems in
    ap (λ ls. line.Version ∷ ls) (ap (λ ls. map line.Component w.decls ++ ls) (sym (append_assoc groups systems _)) ∙ sym (append_assoc (map line.Component w.decls) (groups ++ systems) _))

-- a part of all the lines, kind by kind
parts : {X : Type 0} (f : Line → List X) (d : Document) → f line.Version ≡ [] → f line.End ≡ [] → ((name : List ℕ) → f (line.Pool name) ≡ []) → ((profile : Profile) (decl : Decl) (entry : Entity × Row) → f (row_line profile decl entry) ≡ []) → ((name : List ℕ) → f (line.System name) ≡ []) → ((names : List (List ℕ)) (body : BodyLine) → f (line.Body names body) ≡ []) → flat_map f (flat_lines d) ≡ flat_map f (map line.Component d.world.decls) ++ (flat_map f (map (group_line d.world.decls) d.world.groups) ++ (f (line.Tick d.world.tick) ++ (flat_map f (map line.Slot d.world.slots) ++ flat_map f (map line.Next d.world.free))))
parts f d no_format no_end no_pool no_row no_first no_body =
    let w = d.world in
    let pools = flat_map (pool_lines w.profile) (zip w.decls w.pools) in
    let groups = map (group_line w.decls) w.groups in
    let systems = flat_map (system_lines w.decls) d.systems in
    let others = line.Tick w.tick ∷ (map line.Slot w.slots ++ (map line.Next w.free ++ (pools ++ line.End ∷ []))) in
    let behind : flat_map f (pools ++ line.End ∷ []) ≡ [] = flat_map-append f pools (line.End ∷ []) ∙ (λ i. none_in_pools f no_pool no_row w.profile (zip w.decls w.pools) i ++ append-nil (f line.End) i) ∙ no_end in
    ap (λ x. x ++ flat_map f (map line.Component w.decls ++ (groups ++ (systems ++ others)))) no_format
    ∙ flat_map-append f (map line.Component w.decls) _
    ∙ ap (λ x. flat_map f (map line.Component w.decls) ++ x) (flat_map-append f groups _)
    ∙ ap (λ x. flat_map f (map line.Component w.decls) ++ (flat_map f groups ++ x)) (flat_map-append f systems others ∙ ap (λ x. x ++ flat_map f others) (none_in_systems f no_first no_body w.decls d.systems))
    ∙ ap (λ x. flat_map f (map line.Component w.decls) ++ (flat_map f groups ++ (f (line.Tick w.tick) ++ x))) (flat_map-append f (map line.Slot w.slots) _ ∙ ap (λ x. flat_map f (map line.Slot w.slots) ++ x) (flat_map-append f (map line.Next w.free) (pools ++ line.End ∷ []) ∙ ap (λ x. flat_map f (map line.Next w.free) ++ x) behind ∙ append-nil _))

decls_printed : (d : Document) → flat_map decl_in (flat_lines d) ≡ d.world.decls
decls_printed d =
    parts decl_in d refl refl (λ _. refl) (λ _ _ _. refl) (λ _. refl) (λ _ _. refl)
    ∙ (λ i. each_in decl_in line.Component (λ _. refl) d.world.decls i ++ (none_in decl_in (group_line d.world.decls) (λ _. refl) d.world.groups i ++ (none_in decl_in line.Slot (λ _. refl) d.world.slots i ++ none_in decl_in line.Next (λ _. refl) d.world.free i)))
    ∙ append-nil d.world.decls

-- the group lines hold the groups by their names
pub names_printed : (decls : List Decl) (groups : List GroupDecl) → flat_map group_in (map (group_line decls) groups) ≡ map (named_of decls) groups
names_printed decls [] = refl
names_printed decls (decl ∷ groups) = ap (λ ns. named_of decls decl ∷ ns) (names_printed decls groups)

groups_said : (decls : List Decl) (groups : List GroupDecl) → AllByRecursion (IsSaid decls) groups → map (group_of decls) (map (named_of decls) groups) ≡ groups
groups_said decls [] said = refl
groups_said decls (decl ∷ groups) said = λ i. said.0.same i ∷ groups_said decls groups said.1 i

groups_printed : (d : Document) → AllByRecursion (IsSaid d.world.decls) d.world.groups → groups_in (flat_lines d) ≡ d.world.groups
groups_printed d said =
    let names : flat_map group_in (flat_lines d) ≡ map (named_of d.world.decls) d.world.groups =
    parts group_in d refl refl (λ _. refl) (λ _ _ _. refl) (λ _. refl) (λ _ _. refl)
    ∙ (λ i. none_in group_in line.Component (λ _. refl) d.world.decls i ++ (names_printed d.world.decls d.world.groups i ++ (none_in group_in line.Slot (λ _. refl) d.world.slots i ++ none_in group_in line.Next (λ _. refl) d.world.free i)))
    ∙ append-nil (map (named_of d.world.decls) d.world.groups) in
    (λ i. map (group_of (decls_printed d i)) (names i)) ∙ groups_said d.world.decls d.world.groups said

slots_printed : (d : Document) → flat_map slot_in (flat_lines d) ≡ d.world.slots
slots_printed d =
    parts slot_in d refl refl (λ _. refl) (λ _ _ _. refl) (λ _. refl) (λ _ _. refl)
    ∙ (λ i. none_in slot_in line.Component (λ _. refl) d.world.decls i ++ (none_in slot_in (group_line d.world.decls) (λ _. refl) d.world.groups i ++ (each_in slot_in line.Slot (λ _. refl) d.world.slots i ++ none_in slot_in line.Next (λ _. refl) d.world.free i)))
    ∙ append-nil d.world.slots

nexts_printed : (d : Document) → flat_map next_in (flat_lines d) ≡ d.world.free
nexts_printed d =
    parts next_in d refl refl (λ _. refl) (λ _ _ _. refl) (λ _. refl) (λ _ _. refl)
    ∙ (λ i. none_in next_in line.Component (λ _. refl) d.world.decls i ++ (none_in next_in (group_line d.world.decls) (λ _. refl) d.world.groups i ++ (none_in next_in line.Slot (λ _. refl) d.world.slots i ++ each_in next_in line.Next (λ _. refl) d.world.free i)))

tick_printed : (d : Document) → get_or (flat_map tick_in (flat_lines d)) 0 0 ≡ d.world.tick
tick_printed d = ap (λ xs. get_or xs 0 0) (
    parts tick_in d refl refl (λ _. refl) (λ _ _ _. refl) (λ _. refl) (λ _ _. refl)
    ∙ (λ i. none_in tick_in line.Component (λ _. refl) d.world.decls i ++ (none_in tick_in (group_line d.world.decls) (λ _. refl) d.world.groups i ++ (d.world.tick ∷ (flat_map tick_in (map line.Slot d.world.slots) ++ flat_map tick_in (map line.Next d.world.free)))))
    )

-- ---- pools

-- in front of the first pool line other lines change nothing
beside_first : (profile : Profile) (l : Line) (rest : List Line) → IsBesidePools l → pools_in profile (l ∷ rest) ≡ pools_in profile rest
beside_first profile (line.Pool name) rest beside = absurd beside
beside_first profile (line.Row entity values) rest beside = absurd beside
beside_first profile line.End rest beside = refl
beside_first profile _ rest beside = refl

beside_each : {X : Type 0} (profile : Profile) (g : X → Line) → ((x : X) → IsBesidePools (g x)) → (xs : List X) (rest : List Line) → pools_in profile (map g xs ++ rest) ≡ pools_in profile rest
beside_each profile g beside [] rest = refl
beside_each profile g beside (x ∷ xs) rest = beside_first profile (g x) (map g xs ++ rest) (beside x) ∙ beside_each profile g beside xs rest

-- the lines of rows stand for the rows
rows_printed : (profile : Profile) (decl : Decl) (rows : List (Entity × Row)) (rest : List Line) → IsDecl decl → AllByRecursion (λ entry. IsRow entry.1) rows → AllByRecursion (λ entry. components.fits profile decl entry.1 ≡ true) rows → rows_in profile rest ≡ [] → rows_in profile (map (row_line profile decl) rows ++ rest) ≡ rows
rows_printed profile decl [] rest is_decl wide fit none = none
rows_printed profile decl (entry ∷ rows) rest is_decl wide fit none =
    λ i. (entry.0, row_kept profile decl entry.1 is_decl wide.0 fit.0 i) ∷ rows_printed profile decl rows rest is_decl wide.1 fit.1 none i

-- rows belong to the pool before them
rows_beside : (profile : Profile) (decl : Decl) (rows : List (Entity × Row)) (rest : List Line) → pools_in profile (map (row_line profile decl) rows ++ rest) ≡ pools_in profile rest
rows_beside profile decl [] rest = refl
rows_beside profile decl (entry ∷ rows) rest = rows_beside profile decl rows rest

-- no row stands before the first pool line
no_rows_first : (profile : Profile) (pools : List (Decl × List (Entity × Row))) (rest : List Line) → rows_in profile rest ≡ [] → rows_in profile (flat_map (pool_lines profile) pools ++ rest) ≡ []
no_rows_first profile [] rest none = none
no_rows_first profile (pool ∷ pools) rest none = refl

-- the lines of pools stand for the pools, before what is no row and no pool line
pools_printed : (profile : Profile) (slots : List Slot) (decls : List Decl) (pools : List (List (Entity × Row))) (rest : List Line) → AllByRecursion IsDecl decls → AllZip (AreLawfulRows profile slots) decls pools → rows_in profile rest ≡ [] → pools_in profile rest ≡ [] → pools_in profile (flat_map (pool_lines profile) (zip decls pools) ++ rest) ≡ pools
pools_printed profile slots [] [] rest are_decls lawful no_rows no_pools = no_pools
pools_printed profile slots [] (rows ∷ pools) rest are_decls lawful no_rows no_pools = absurd lawful
pools_printed profile slots (decl ∷ decls) [] rest are_decls lawful no_rows no_pools = absurd lawful
pools_printed profile slots (decl ∷ decls) (rows ∷ pools) rest are_decls lawful no_rows no_pools =
    let mine = map (row_line profile decl) rows in
    let others = flat_map (pool_lines profile) (zip decls pools) in
    ap (pools_in profile) (append_assoc (pool_lines profile (decl, rows)) others rest)
    ∙ (λ i. rows_printed profile decl rows (others ++ rest) are_decls.0 lawful.0.wide lawful.0.fitting (no_rows_first profile (zip decls pools) rest no_rows) i ∷ (rows_beside profile decl rows (others ++ rest) ∙ pools_printed profile slots decls pools rest are_decls.1 lawful.1 no_rows no_pools) i)

-- nor do the lines of systems
beside_systems : (profile : Profile) (decls : List Decl) (systems : List System) (rest : List Line) → pools_in profile (flat_map (system_lines decls) systems ++ rest) ≡ pools_in profile rest
beside_systems profile decls [] rest = refl
beside_systems profile decls (system ∷ systems) rest =
    ap (pools_in profile) (append_assoc (system_lines decls system) (flat_map (system_lines decls) systems) rest)
    ∙ beside_each profile (line.Body (names_of decls)) (λ _. tt) (body_lines system) _
    ∙ beside_systems profile decls systems rest

-- the pools of a document with a lawful world are those of its lines
all_pools : (limit : ℕ) (d : Document) → IsLawful limit d.world → pools_in d.world.profile (flat_lines d) ≡ d.world.pools
all_pools limit d lawful =
    let w = d.world in
    beside_each w.profile line.Component (λ _. tt) w.decls _
    ∙ beside_each w.profile (group_line w.decls) (λ _. tt) w.groups _
    ∙ beside_systems w.profile w.decls d.systems _
    ∙ beside_each w.profile line.Slot (λ _. tt) w.slots _
    ∙ beside_each w.profile line.Next (λ _. tt) w.free _
    ∙ pools_printed w.profile w.slots w.decls w.pools (line.End ∷ []) lawful.decls lawful.pools refl refl

-- the lines of a document with a lawful world stand for the world
pub world_printed : (format : Format) (d : Document) → IsLawful format.slot_limit d.world → d.world.profile ≡ format.profile → AllByRecursion (IsSaid d.world.decls) d.world.groups → d.world ≡ world_of format (lines_of d)
world_printed format d lawful same said =
    let pools : d.world.pools ≡ pools_in format.profile (flat_lines d) = sym (all_pools format.slot_limit d lawful) ∙ ap (λ (p : Profile). pools_in p (flat_lines d)) same in
    (λ i. record {
      profile = same i;
      decls = sym (decls_printed d) i;
      groups = sym (groups_printed d said) i;
      tick = sym (tick_printed d) i;
      slots = sym (slots_printed d) i;
      free = sym (nexts_printed d) i;
      pools = pools i;
    })
    ∙ ap (world_of format) (lines_flat d)

-- ---- systems

not_of_systems : (profile : Profile) (pools : List (Decl × List (Entity × Row))) (decls : List Decl) (systems : SystemsSoFar) (rest : List Line) → with_lines decls systems (flat_map (pool_lines profile) pools ++ rest) ≡ with_lines decls systems rest
not_of_systems profile [] decls systems rest = refl
not_of_systems profile (pool ∷ pools) decls systems rest =
    ap (with_lines decls systems) (append_assoc (pool_lines profile pool) (flat_map (pool_lines profile) pools) rest)
    ∙ printed.beside_systems decls (row_line profile pool.0) (λ _. tt) pool.1 systems _
    ∙ not_of_systems profile pools decls systems rest

-- the lines of a document with systems that their canonical lines stand for
pub systems_printed : (d : Document) → AreCanonical d.world.decls d.systems → systems_in (lines_of d) ≡ closed_only d.systems
systems_printed d are =
    let w = d.world in
    let decls = w.decls in
    ap systems_in (sym (lines_flat d))
    ∙ ap (λ (ds : List Decl). with_lines ds no_systems (flat_lines d)) (decls_printed d)
    ∙ printed.beside_systems decls line.Component (λ _. tt) w.decls no_systems _
    ∙ printed.beside_systems decls (group_line w.decls) (λ _. tt) w.groups no_systems _
    ∙ systems_close decls [] d.systems _ are
    ∙ printed.beside_systems decls line.Slot (λ _. tt) w.slots (closed_only d.systems) _
    ∙ printed.beside_systems decls line.Next (λ _. tt) w.free (closed_only d.systems) _
    ∙ not_of_systems w.profile (zip w.decls w.pools) decls (closed_only d.systems) (line.End ∷ [])
