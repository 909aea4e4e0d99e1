-- The canonical text of a lawful document is a document that stands for the same.
use Rattle.std.proofs.Common.{◌≡◌, ℕ, ◌+◌, ◌<◌, ◌≤◌, Bool, true, false, not, cond, List, [], ◌∷◌, ◌++◌, map, length, get_or, refl, sym, ap, subst, ◌∙◌, arith, zero-add}
use Rattle.std.specs.Prelude.{◌==◌}
use Rattle.std.specs.List.{flat_map, zip, list_any, list_all, AllByRecursion, AllZip}
use Rattle.std.proofs.lemmas.List.{append-nil}
use Rattle.std.proofs.lemmas.Grind.{flat_map-append}
use Rattle.std.proofs.lemmas.Bool.{and_from, eq-eqb, not_from_true}
use Rattle.entity_id.specs.declared.entity.Profile.{Profile}
use Rattle.entity_id.proofs.ListLemmas.{all-append, all-map, all_weaker}
use Rattle.world_model.specs.declared.component.Decl.{Decl}
use Rattle.world_model.specs.declared.group.GroupDecl.{GroupDecl}
use Rattle.world_model.specs.declared.slot.Slot.{Slot}
use Rattle.world_model.specs.declared.world.World.{World}
use Rattle.world_model.specs.Slots.{is_free_at, AreLawfulSlots}
use Rattle.world_model.specs.Worlds.{AreLawfulRows}
use Rattle.row_lang.specs.Systems.{System, IsSystem}
use Rattle.world_text.specs.declared.format.Format.{Format}
use Rattle.world_text.specs.declared.document.Document.{Document}
use Rattle.world_text.specs.declared.section.Section.TheVariants as section
use Rattle.world_text.specs.declared.section.Section.{Section}
use Rattle.world_text.specs.LineKinds.{Line}
use Rattle.world_text.specs.LineKinds as line
use Rattle.world_text.specs.Formats.{version_1}
use Rattle.world_text.specs.Sections.{order, later}
use Rattle.row_lang.specs.Naming.{IsNamedDecl}
use Rattle.world_text.specs.Lines.{IsLine, text_of}
use Rattle.world_text.specs.Meaning.{decl_in, group_of, groups_in, slot_in, next_in, pools_in, settled_from, settled}
use Rattle.world_text.specs.Fitting.{section_of, last_section, fits, fit_after, are_different, is_unfinished}
use Rattle.world_text.specs.SystemLines.{SystemsSoFar, no_systems, with_lines, systems_in, commands_of}
use Rattle.row_lang.specs.Naming.{are_named_apart}
use Rattle.world_text.specs.Documents.{AreAdmissible, IsDocumentOf, IsDocument, IsLawfulDocumentOf, IsLawfulDocument, group_line, system_lines, pool_lines, header_of, lines_of, text}
use Rattle.world_text.proofs.MeaningLemmas.{flat_map_push, order_later, later_is, order_last_section-append, last_section_push, no_group_yet, no_next_yet, no_pool_yet}
use Rattle.world_text.proofs.GroupLemmas.{IsSaid, MayJoin, lawful_groups_said, lawful_join}
use Rattle.world_text.proofs.PrintedMeaning.{none_in, each_in, lines_flat, world_printed, systems_printed}
use Rattle.world_text.proofs.PrintedSystems.{AreCanonical, closed_only, none_in_systems, systems_close, systems_order, systems_spelled, systems_fit}
use Rattle.world_text.proofs.BodyTextLemmas.{canonical_lines}
use Rattle.world_text.proofs.SystemLemmas.{with_lines-append, no_systems_yet}
use Rattle.world_text.proofs.PrintedFits.{times, fit_append, between, new_at_first, decls_fit, groups_fit, slots_fit, nexts_fit, listed_any, settled_at, settled_by, free_within, each_listed}
use Rattle.world_text.proofs.PrintedPools.{IsBeforePools, pools_fit}
use Rattle.world_text.proofs.PrintedLines.{pools_lined}

-- ---- the free list

one_at_most : (b : Bool) (n : ℕ) → n ≡ cond b 1 0 → n ≤ 1
one_at_most true n e = omega arith
one_at_most false n e = omega arith

some_if : (b : Bool) (n : ℕ) → n ≡ cond b 1 0 → 0 < n → b ≡ true
some_if true n e some = refl
some_if false n e some = absurd (omega arith)

if_some : (b : Bool) (n : ℕ) → n ≡ cond b 1 0 → b ≡ true → 0 < n
if_some true n e is = omega arith
if_some false n e is = absurd (cc)

-- ---- the parts in order

low_decls : (ds : List Decl) → order (last_section (map line.Component ds)) ≤ 2
low_decls [] = omega arith
low_decls (d ∷ ds) = omega (arith, order_later section.Components (last_section (map line.Component ds)), low_decls ds)

low_groups : (decls : List Decl) (gs : List GroupDecl) → order (last_section (map (group_line decls) gs)) ≤ 3
low_groups decls [] = omega arith
low_groups decls (g ∷ gs) = omega (arith, order_later section.Groups (last_section (map (group_line decls) gs)), low_groups decls gs)

low_slots : (ss : List Slot) → order (last_section (map line.Slot ss)) ≤ 6
low_slots [] = omega arith
low_slots (s ∷ ss) = omega (arith, order_later section.Slots (last_section (map line.Slot ss)), low_slots ss)

low_nexts : (ns : List ℕ) → order (last_section (map line.Next ns)) ≤ 7
low_nexts [] = omega arith
low_nexts (n ∷ ns) = omega (arith, order_later section.FreeList (last_section (map line.Next ns)), low_nexts ns)

up_to_end : (part : Section) → order part ≤ 9
up_to_end section.Start = omega arith
up_to_end section.Version = omega arith
up_to_end section.Components = omega arith
up_to_end section.Groups = omega arith
up_to_end section.Systems = omega arith
up_to_end section.Tick = omega arith
up_to_end section.Slots = omega arith
up_to_end section.FreeList = omega arith
up_to_end section.Pools = omega arith
up_to_end section.End = omega arith

-- where lines reach the end, so do they with others before them
end_behind : (a b : List Line) → last_section b ≡ section.End → last_section (a ++ b) ≡ section.End
end_behind [] b ended = ended
end_behind (l ∷ a) b ended = ap (later (section_of l)) (end_behind a b ended) ∙ later_is (section_of l) section.End (up_to_end (section_of l))

-- ---- the whole

-- the lines of a document, with its identifiers of a profile
abbrev lines_at : Profile → World → List System → List Line
lines_at profile w systems = line.Version ∷ (map line.Component w.decls ++ (map (group_line w.decls) w.groups ++ (flat_map (system_lines w.decls) systems ++ (line.Tick w.tick ∷ (map line.Slot w.slots ++ (map line.Next w.free ++ (flat_map (pool_lines profile) (zip w.decls w.pools) ++ line.End ∷ [])))))))

ends_printed : (profile : Profile) (w : World) (systems : List System) → last_section (lines_at profile w systems) ≡ section.End
ends_printed profile w systems =
    end_behind (line.Version ∷ map line.Component w.decls) _
    (end_behind (map (group_line w.decls) w.groups) _ (end_behind (flat_map (system_lines w.decls) systems) _ (end_behind (line.Tick w.tick ∷ map line.Slot w.slots) _ (end_behind (map line.Next w.free) _ (end_behind (flat_map (pool_lines profile) (zip w.decls w.pools)) (line.End ∷ []) refl)))))

-- what the lines of a document are printed from, with the format's profile
record IsPrintable (format : Format) (w : World) (systems : List System) : Type 0 where
  few_decls : length w.decls ≤ 64
  named : AllByRecursion IsNamedDecl w.decls
  apart : are_named_apart w.decls ≡ true
  said : AllByRecursion (IsSaid w.decls) w.groups
  joins : MayJoin [] w.groups
  tick : w.tick ≤ 1000000000000
  slots : AreLawfulSlots format.profile format.slot_limit w.slots w.free
  pools : AllZip (AreLawfulRows format.profile w.slots) w.decls w.pools
  systems_few : length systems ≤ 64
  systems_apart : are_different (map (λ system. system.name) systems) ≡ true
  commands : commands_of systems ≤ 64
  canonical : AreCanonical w.decls systems

free_is : (format : Format) (w : World) (systems : List System) → IsPrintable format w systems → (i : ℕ) → 0 < times i w.free → is_free_at w.slots i ≡ true
free_is format w systems h i some = some_if (is_free_at w.slots i) (times i w.free) (h.slots.listed i) some

groups_spelled : (decls : List Decl) (format : Format) (groups : List GroupDecl) → AllByRecursion (IsSaid decls) groups → AllByRecursion (IsLine format) (map (group_line decls) groups)
groups_spelled decls format [] said = tt
groups_spelled decls format (g ∷ groups) said = (said.0.is, groups_spelled decls format groups said.1)

lines_spelled : (format : Format) (w : World) (systems : List System) → IsPrintable format w systems → AllByRecursion (IsLine format) (lines_at format.profile w systems)
lines_spelled format w systems h = (
  tt,
  all-append (IsLine format) (map line.Component w.decls) _ (all-map (IsLine format) line.Component w.decls h.named) (all-append (IsLine format) (map (group_line w.decls) w.groups) _ (groups_spelled w.decls format w.groups h.said) (all-append (IsLine format) (flat_map (system_lines w.decls) systems) _ (systems_spelled format w.decls systems (record { few = h.few_decls; each = h.named; apart = h.apart }) h.canonical) (
    h.tick,
    all-append (IsLine format) (map line.Slot w.slots) _ (all-map (IsLine format) line.Slot w.slots h.slots.versions)
        (all-append (IsLine format) (map line.Next w.free) _ (all-map (IsLine format) line.Next w.free (each_listed (λ i. i < format.slot_limit) w.free (λ i some. omega (arith, free_within w.slots i (free_is format w systems h i some), h.slots.few))))
        (all-append (IsLine format) (flat_map (pool_lines format.profile) (zip w.decls w.pools)) (line.End ∷ []) (pools_lined format w.slots w.free w.decls w.pools h.slots h.named h.pools) (tt, tt))),
  ))),
)

lines_fit : (format : Format) (w : World) (systems : List System) → IsPrintable format w systems → fit_after format [] (lines_at format.profile w systems) ≡ true
lines_fit format w systems h =
    let a = map line.Component w.decls in
    let b = map line.Slot w.slots in
    let c = map line.Next w.free in
    let pools = flat_map (pool_lines format.profile) (zip w.decls w.pools) in
    let g = map (group_line w.decls) w.groups in
    let p0 = line.Version ∷ a in
    let p1 = p0 ++ g in
    let ss = flat_map (system_lines w.decls) systems in
    let q1 = p1 ++ ss in
    let p2 = q1 ++ line.Tick w.tick ∷ [] in
    let p3 = p2 ++ b in
    let p4 = p3 ++ c in
    let p5 = p4 ++ pools in
    let start = order_later section.Version (last_section a) in
    let r0_high : order (last_section p0) ≤ 2 = omega (arith, start, low_decls w.decls) in
    let r0_low : 1 ≤ order (last_section p0) = omega (arith, start) in
    let e1 = order_last_section-append p0 g in
    let r1_high : order (last_section p1) ≤ 3 = omega (arith, e1, low_groups w.decls w.groups) in
    let r1_low : 1 ≤ order (last_section p1) = omega (arith, e1) in
    let f1 = order_last_section-append p1 ss in
    let t1_high : order (last_section q1) ≤ 4 = omega (arith, f1, systems_order w.decls systems) in
    let t1_low : 1 ≤ order (last_section q1) = omega (arith, f1) in
    let r2 : order (last_section p2) ≡ 5 = ap order (last_section_push q1 (line.Tick w.tick) (omega arith)) in
    let e3 = order_last_section-append p2 b in
    let r3_high : order (last_section p3) ≤ 6 = omega (arith, e3, low_slots w.slots) in
    let r3_low : 5 ≤ order (last_section p3) = omega (arith, e3) in
    let e4 = order_last_section-append p3 c in
    let r4_high : order (last_section p4) ≤ 7 = omega (arith, e4, low_nexts w.free) in
    let r4_low : 5 ≤ order (last_section p4) = omega (arith, e4) in
    let s1 : flat_map slot_in p1 ≡ [] = flat_map-append slot_in p0 g ∙ (λ i. none_in slot_in line.Component (λ _. refl) w.decls i ++ none_in slot_in (group_line w.decls) (λ _. refl) w.groups i) in
    let u1 : flat_map slot_in q1 ≡ [] = flat_map-append slot_in p1 ss ∙ (λ i. s1 i ++ none_in_systems slot_in (λ _. refl) (λ _ _. refl) w.decls systems i) in
    let s2 : flat_map slot_in p2 ≡ [] = flat_map_push slot_in q1 (line.Tick w.tick) ∙ append-nil (flat_map slot_in q1) ∙ u1 in
    let s3 : flat_map slot_in p3 ≡ w.slots = flat_map-append slot_in p2 b ∙ (λ i. s2 i ++ each_in slot_in line.Slot (λ _. refl) w.slots i) in
    let s4 : flat_map slot_in p4 ≡ w.slots = flat_map-append slot_in p3 c ∙ (λ i. s3 i ++ none_in slot_in line.Next (λ _. refl) w.free i) ∙ append-nil w.slots in
    let n3 : flat_map next_in p3 ≡ [] = no_next_yet p3 (omega arith) in
    let n4 : flat_map next_in p4 ≡ w.free = flat_map-append next_in p3 c ∙ (λ i. n3 i ++ each_in next_in line.Next (λ _. refl) w.free i) in
    let d0 : flat_map decl_in p0 ≡ w.decls = each_in decl_in line.Component (λ _. refl) w.decls in
    let d1 : flat_map decl_in p1 ≡ w.decls = flat_map-append decl_in p0 g ∙ (λ i. d0 i ++ none_in decl_in (group_line w.decls) (λ _. refl) w.groups i) ∙ append-nil w.decls in
    let v1 : flat_map decl_in q1 ≡ w.decls = flat_map-append decl_in p1 ss ∙ (λ i. d1 i ++ none_in_systems decl_in (λ _. refl) (λ _ _. refl) w.decls systems i) ∙ append-nil w.decls in
    let d2 : flat_map decl_in p2 ≡ w.decls = flat_map_push decl_in q1 (line.Tick w.tick) ∙ append-nil (flat_map decl_in q1) ∙ v1 in
    let none1 : systems_in p1 ≡ closed_only [] = no_systems_yet (flat_map decl_in p1) no_systems p1 (omega arith) in
    let closed1 : systems_in q1 ≡ closed_only systems =
    ap (λ (ds : List Decl). with_lines ds no_systems q1) v1
    ∙ with_lines-append w.decls no_systems p1 ss
    ∙ ap (λ (s : SystemsSoFar). with_lines w.decls s ss) (no_systems_yet w.decls no_systems p1 (omega arith))
    ∙ ap (with_lines w.decls no_systems) (sym (append-nil ss))
    ∙ systems_close w.decls [] systems [] h.canonical in
    let d3 : flat_map decl_in p3 ≡ w.decls = flat_map-append decl_in p2 b ∙ (λ i. d2 i ++ none_in decl_in line.Slot (λ _. refl) w.slots i) ∙ append-nil w.decls in
    let d4 : flat_map decl_in p4 ≡ w.decls = flat_map-append decl_in p3 c ∙ (λ i. d3 i ++ none_in decl_in line.Next (λ _. refl) w.free i) ∙ append-nil w.decls in
    let g0 : groups_in p0 ≡ [] = ap (map (group_of (flat_map decl_in p0))) (no_group_yet p0 (omega arith)) in
    let open_at : (i : ℕ) → 0 < times i w.free → get_or (settled p3) i true ≡ false = λ i some. ap (λ flags. get_or flags i true) (λ j. settled_from 0 (s3 j) (n3 j)) ∙ settled_at 0 i w.slots ∙ not_from_true _ (free_is format w systems h i some) in
    let all_named : (k : ℕ) → is_free_at w.slots k ≡ true → list_any (λ m. m == (0 + k)) w.free ≡ true = λ k free. ap (λ n. list_any (λ m. m == n) w.free) (zero-add k) ∙ listed_any k w.free (if_some (is_free_at w.slots k) (times k w.free) (h.slots.listed k) free) in
    let state : IsBeforePools format w.slots p4 [] w.decls = record {
      low = r4_low;
      high = omega arith;
      slots_are = s4;
      settled = ap (list_all (λ x. x)) (λ i. settled_from 0 (s4 i) (n4 i)) ∙ settled_by 0 w.slots w.free all_named;
      decls_are = d4;
      count = ap length (no_pool_yet format.profile p4 (omega arith));
    } in
    let printed = pools_fit format w.slots p4 [] w.decls w.pools state (all_weaker _ _ (λ d is. is.fields) w.decls h.named) h.pools in
    let counted : length (pools_in format.profile p5) ≡ length (flat_map decl_in p5) = printed.1.count ∙ sym (ap length (printed.1.decls_are ∙ append-nil w.decls)) in
    let end : fits format p5 line.End ≡ true = and_from _ _ (between section.Tick section.Pools (last_section p5) printed.1.low printed.1.high) (and_from _ _ printed.1.settled (eq-eqb _ _ counted)) in
    fit_append format (line.Version ∷ []) a _ (decls_fit format (line.Version ∷ []) w.decls (omega arith) (omega arith) (omega (arith, h.few_decls)) (new_at_first w.decls) h.apart)
    (fit_append format p0 g _ (groups_fit format p0 w.decls w.groups d0 r0_low (omega arith) h.said (subst (λ (old : List GroupDecl). MayJoin old w.groups) (sym g0) h.joins))
    (fit_append format p1 ss _ (systems_fit format p1 w.decls [] systems r1_low (omega arith) d1 none1 (omega (arith, h.systems_few)) h.systems_apart (omega (arith, h.commands)) h.canonical)
    (and_from _ _ (and_from _ _ (between section.Version section.Systems (last_section q1) t1_low t1_high) (ap (λ (s : SystemsSoFar). not (is_unfinished s)) closed1))
    (fit_append format p2 b _ (slots_fit format p2 w.slots (omega arith) (omega arith) (omega (arith, ap length s2, h.slots.few)))
    (fit_append format p3 c _ (nexts_fit format p3 w.free r3_low (omega arith) (λ i. one_at_most (is_free_at w.slots i) (times i w.free) (h.slots.listed i)) open_at)
    (fit_append format p4 pools (line.End ∷ []) printed.0 (and_from _ _ end refl)))))))

said_lines : (format : Format) (document : Document) → IsLawfulDocumentOf format document → AllByRecursion (IsSaid document.world.decls) document.world.groups
said_lines format document lawful =
    let groups = lawful.world.groups in
    lawful_groups_said document.world.decls document.world.groups lawful.named groups.declared groups.well_formed lawful.ascending

each_canonical : (decls : List Decl) (systems : List System) → AllByRecursion (IsSystem decls) systems → AreCanonical decls systems
each_canonical decls [] each = tt
each_canonical decls (system ∷ systems) each = (canonical_lines decls system each.0, each_canonical decls systems each.1)

printable : (format : Format) (document : Document) → IsLawfulDocumentOf format document → IsPrintable format document.world document.systems
printable format document lawful = record {
  few_decls = lawful.world.few_decls;
  named = lawful.named.each;
  apart = lawful.named.apart;
  said = said_lines format document lawful;
  joins = lawful_join [] document.world.groups lawful.world.groups.few lawful.world.groups.well_formed lawful.world.groups.coexist;
  tick = lawful.tick;
  slots = subst (λ p. AreLawfulSlots p format.slot_limit document.world.slots document.world.free) lawful.profile lawful.world.slots;
  pools = subst (λ p. AllZip (AreLawfulRows p document.world.slots) document.world.decls document.world.pools) lawful.profile lawful.world.pools;
  systems_few = lawful.systems.few;
  systems_apart = lawful.systems.apart;
  commands = lawful.systems.commands;
  canonical = each_canonical document.world.decls document.systems lawful.systems.each;
}

-- each header line of a lawful document has a spelling
pub header_spelled : (document : Document) → IsLawfulDocument document → AllByRecursion (IsLine version_1) (header_of document)
header_spelled document lawful =
    let w = document.world in
    let h = printable version_1 document lawful in
    all-append (IsLine version_1) (map line.Component w.decls) _ (all-map (IsLine version_1) line.Component w.decls h.named)
    (all-append (IsLine version_1) (map (group_line w.decls) w.groups) _ (groups_spelled w.decls version_1 w.groups h.said)
    (systems_spelled version_1 w.decls document.systems lawful.named h.canonical))

-- the printed lines of a lawful document are admissible
pub printed_admissible : (format : Format) (document : Document) → IsLawfulDocumentOf format document → AreAdmissible format (lines_of document)
printed_admissible format document lawful =
    let w = document.world in
    let h = printable format document lawful in
    record {
      each = subst (AllByRecursion (IsLine format)) (lines_flat document) (subst (λ p. AllByRecursion (IsLine format) (lines_at p w document.systems)) (sym lawful.profile) (lines_spelled format w document.systems h));
      fit = subst (λ ls. fit_after format [] ls ≡ true) (lines_flat document) (subst (λ p. fit_after format [] (lines_at p w document.systems) ≡ true) (sym lawful.profile) (lines_fit format w document.systems h));
    }

-- the printed lines of a lawful document are a document that stands for the same
pub printed_is_document_of : (format : Format) (document : Document) → IsLawfulDocumentOf format document → IsDocumentOf format (text_of format (lines_of document)) document
printed_is_document_of format document lawful =
    let w = document.world in
    let h = printable format document lawful in
    record {
      lines = lines_of document;
      admissible = printed_admissible format document lawful;
      ended = ap last_section (sym (lines_flat document)) ∙ ends_printed w.profile w document.systems;
      spelled = refl;
      world_is = world_printed format document lawful.world lawful.profile (said_lines format document lawful);
      systems_are = ap (λ (s : SystemsSoFar). s.closed) (sym (systems_printed document h.canonical));
    }

-- what is printed is read again
pub printed_is_document : (document : Document) → IsLawfulDocument document → IsDocument (text document) document
printed_is_document document lawful = printed_is_document_of version_1 document lawful
