-- Lines of scripts: a word, and what stands behind it.
use Rattle.std.proofs.Common.{◌≡◌, inl, inr, ℕ, ◌+◌, ◌<◌, ◌≤◌, List, [], ◌∷◌, ◌++◌, All, length, codes, refl, sym, ap, subst, ◌∙◌, arith, append_assoc}
use Rattle.std.specs.Fmt.{decimal}
use Rattle.std.proofs.lemmas.List.{append-nil}
use Rattle.std.proofs.lemmas.List.Elements.{All-nil}
use Rattle.std.proofs.lemmas.List.Sorted.{All-permutation, IsNonDecreasingBy-short, IsPermutation-append, IsPermutation-refl, length_permutation, sum_by-IsPermutation}
use Rattle.entity_id.specs.declared.entity.Profile.{Profile}
use Rattle.entity_id.specs.declared.entity.Entity.{Entity}
use Rattle.entity_id.specs.Texts.{entity_text}
use Rattle.world_model.specs.declared.command.Command.TheVariants as command
use Rattle.world_model.specs.declared.component.Decl.{Decl}
use Rattle.world_model.specs.declared.component.Row.{Row}
use Rattle.world_text.specs.declared.script.ScriptLine.{ScriptLine}
use Rattle.world_text.specs.declared.script.ScriptLine.TheVariants.{Run, Watch, Unwatch}
use Rattle.world_text.specs.declared.verbs.EntityVerb.{EntityVerb}
use Rattle.world_text.specs.declared.verbs.EntityVerb.TheVariants as of_entity
use Rattle.world_text.specs.declared.verbs.EntryVerb.{EntryVerb}
use Rattle.world_text.specs.declared.verbs.EntryVerb.TheVariants as of_entry
use Rattle.world_text.specs.declared.verbs.NamesVerb.{NamesVerb}
use Rattle.world_text.specs.declared.verbs.NamesVerb.TheVariants as of_names
use Rattle.world_text.specs.declared.verbs.PlainVerb.{PlainVerb}
use Rattle.world_text.specs.declared.verbs.PlainVerb.TheVariants as plain
use Rattle.world_text.specs.declared.verbs.RowVerb.{RowVerb}
use Rattle.world_text.specs.declared.verbs.RowVerb.TheVariants as of_row
use Rattle.world_text.specs.declared.verbs.Verb.{Verb}
use Rattle.world_text.specs.declared.verbs.Verb.TheVariants as verb
use Rattle.world_text.specs.GroupLines.{group_text}
use Rattle.row_lang.specs.NameLists.{name_at, names_text, part_text, IsCalled, AreNamedOnce}
use Rattle.row_lang.specs.FieldNames.{field_text}
use Rattle.world_text.specs.Scripts.{entry_text, row_text, event_word, field_value_text, AreLists, IsLineFirst}
use Rattle.row_lang.specs.Reading.{IsKeptAs}
use Rattle.world_text.specs.ScriptReading.{IsEntityNext, IsEntryNext, IsRowLast, AreEntityNames, IsViewLast, AreNamesLast, IsLineBehind}
use Rattle.world_text.specs.Verbs.{word_of, plain_word, plain_command, entity_word, entity_command, entry_word, entry_command, row_word, row_command, names_word, names_command}
use Rattle.row_lang.proofs.NameListLemmas.{pools_called, pools_spelled, part_called, part_once, part_spelled}

-- ---- from the parts to the line

-- a word, and what stands behind it up to the line's end
spell : (word args text behind rest : List ℕ) → text ≡ word ++ behind → behind ≡ args ++ 10 ∷ rest → text ≡ ((word ++ args) ++ 10 ∷ []) ++ rest
spell word args text behind rest e h =
    e ∙ ap (λ (t : List ℕ). word ++ t) h ∙ sym (append_assoc word args (10 ∷ rest)) ∙ sym (append_assoc (word ++ args) (10 ∷ []) rest)

plain_first : (profile : Profile) (decls : List Decl) (text behind rest : List ℕ) (of : PlainVerb) → text ≡ plain_word of ++ behind → behind ≡ 10 ∷ rest → IsLineFirst profile decls text (Run (plain_command of)) rest
plain_first profile decls text behind rest plain.Create e h = record { is = tt; written = Run command.Create; same = (command.Create, refl, refl); spelled = spell (codes "create") [] text behind rest e h }
plain_first profile decls text behind rest plain.Alive e h = record { is = tt; written = Run command.Alive; same = (command.Alive, refl, refl); spelled = spell (codes "alive") [] text behind rest e h }
plain_first profile decls text behind rest plain.Size e h = record { is = tt; written = Run command.Size; same = (command.Size, refl, refl); spelled = spell (codes "size") [] text behind rest e h }

entity_first : (profile : Profile) (decls : List Decl) (text behind rest : List ℕ) (of : EntityVerb) (entity : Entity) → text ≡ entity_word of ++ behind → IsEntityNext profile behind entity (10 ∷ rest) → IsLineFirst profile decls text (Run (entity_command of entity)) rest
entity_first profile decls text behind rest of_entity.Hint entity e h = record { is = h.of_profile; written = Run (command.Hint entity); same = (command.Hint entity, refl, refl); spelled = spell (codes "hint") (32 ∷ entity_text profile entity) text behind rest e h.whole }
entity_first profile decls text behind rest of_entity.Destroy entity e h = record { is = h.of_profile; written = Run (command.Destroy entity); same = (command.Destroy entity, refl, refl); spelled = spell (codes "destroy") (32 ∷ entity_text profile entity) text behind rest e h.whole }
entity_first profile decls text behind rest of_entity.Valid entity e h = record { is = h.of_profile; written = Run (command.Valid entity); same = (command.Valid entity, refl, refl); spelled = spell (codes "valid") (32 ∷ entity_text profile entity) text behind rest e h.whole }
entity_first profile decls text behind rest of_entity.Orphan entity e h = record { is = h.of_profile; written = Run (command.Orphan entity); same = (command.Orphan entity, refl, refl); spelled = spell (codes "orphan") (32 ∷ entity_text profile entity) text behind rest e h.whole }

entry_first : (profile : Profile) (decls : List Decl) (text behind rest : List ℕ) (of : EntryVerb) (entity : Entity) (pool : ℕ) → text ≡ entry_word of ++ behind → IsEntryNext profile decls behind entity pool (10 ∷ rest) → IsLineFirst profile decls text (Run (entry_command of entity pool)) rest
entry_first profile decls text behind rest of_entry.Remove entity pool e h = record { is = h.is; written = Run (command.Remove entity pool); same = (command.Remove entity pool, refl, refl); spelled = spell (codes "remove") (32 ∷ entry_text profile decls entity pool) text behind rest e h.whole }
entry_first profile decls text behind rest of_entry.Erase entity pool e h = record { is = h.is; written = Run (command.Erase entity pool); same = (command.Erase entity pool, refl, refl); spelled = spell (codes "erase") (32 ∷ entry_text profile decls entity pool) text behind rest e h.whole }
entry_first profile decls text behind rest of_entry.Get entity pool e h = record { is = h.is; written = Run (command.Get entity pool); same = (command.Get entity pool, refl, refl); spelled = spell (codes "get") (32 ∷ entry_text profile decls entity pool) text behind rest e h.whole }

row_whole : (profile : Profile) (decls : List Decl) (behind rest : List ℕ) (entity : Entity) (pool : ℕ) (row : Row) → IsRowLast profile decls behind entity pool row rest → behind ≡ (32 ∷ (entry_text profile decls entity pool ++ row_text profile decls pool row)) ++ 10 ∷ rest
row_whole profile decls behind rest entity pool row h = h.entry.whole ∙ ap (λ (t : List ℕ). 32 ∷ t) (sym (append_assoc (entry_text profile decls entity pool) (row_text profile decls pool row) (10 ∷ rest)))

row_first : (profile : Profile) (decls : List Decl) (text behind rest : List ℕ) (of : RowVerb) (entity : Entity) (pool : ℕ) (row : Row) → text ≡ row_word of ++ behind → IsRowLast profile decls behind entity pool row rest → IsLineFirst profile decls text (Run (row_command of entity pool row)) rest
row_first profile decls text behind rest of_row.Emplace entity pool row e h = record { is = (h.entry.is, h.may_set); written = Run (command.Emplace entity pool row); same = (command.Emplace entity pool row, refl, refl); spelled = spell (codes "emplace") (32 ∷ (entry_text profile decls entity pool ++ row_text profile decls pool row)) text behind rest e (row_whole profile decls behind rest entity pool row h) }
row_first profile decls text behind rest of_row.EmplaceOrReplace entity pool row e h = record { is = (h.entry.is, h.may_set); written = Run (command.EmplaceOrReplace entity pool row); same = (command.EmplaceOrReplace entity pool row, refl, refl); spelled = spell (codes "emplace_or_replace") (32 ∷ (entry_text profile decls entity pool ++ row_text profile decls pool row)) text behind rest e (row_whole profile decls behind rest entity pool row h) }
row_first profile decls text behind rest of_row.Replace entity pool row e h = record { is = (h.entry.is, h.may_set); written = Run (command.Replace entity pool row); same = (command.Replace entity pool row, refl, refl); spelled = spell (codes "replace") (32 ∷ (entry_text profile decls entity pool ++ row_text profile decls pool row)) text behind rest e (row_whole profile decls behind rest entity pool row h) }

-- kept lists are lists of a line
kept_lists : (decls : List Decl) (order excluded all without : List ℕ) → IsKeptAs order all → IsKeptAs excluded without → All (IsCalled decls) order → All (IsCalled decls) excluded → 0 < length order → length order + length excluded ≤ 16 → AreNamedOnce (order ++ excluded) → AreLists decls all without
kept_lists decls order excluded all without kept out called called_out some few once =
    let long = length_permutation order all kept.same in
    let long_out = length_permutation excluded without out.same in
    record {
      bounds = record { some = omega arith; few = omega arith };
      once = λ pool. subst (λ (n : ℕ). n ≤ 1) (sym (sum_by-IsPermutation _ (order ++ excluded) (all ++ without) (IsPermutation-append order all excluded without kept.same out.same))) (once pool);
      kept = record { called = All-permutation (IsCalled decls) order all kept.same called; ascending = kept.ascending };
      kept_without = record { called = All-permutation (IsCalled decls) excluded without out.same called_out; ascending = out.ascending };
    }

kept_nothing : IsKeptAs [] []
kept_nothing = record { same = IsPermutation-refl []; ascending = IsNonDecreasingBy-short (λ x. x) [] (omega arith) }

-- the components of an `all_of` or `any_of` line
one_list : (decls : List Decl) (behind order pools rest : List ℕ) → IsKeptAs order pools → AreNamesLast decls behind order rest → AreLists decls pools []
one_list decls behind order pools rest kept last =
    let names = last.names.names in
    kept_lists decls order [] pools [] kept kept_nothing (pools_called decls behind order (10 ∷ rest) names.next) (All-nil (IsCalled decls)) last.names.some
    (omega (arith, last.few)) (subst AreNamedOnce (sym (append-nil order)) names.once)

names_whole : (profile : Profile) (decls : List Decl) (text rest : List ℕ) (entity : Entity) (pools : List ℕ) → (h : AreEntityNames profile decls text entity pools rest) → text ≡ (32 ∷ (entity_text profile entity ++ names_text decls h.order)) ++ 10 ∷ rest
names_whole profile decls text rest entity pools h =
    h.first.whole ∙ ap (λ (t : List ℕ). 32 ∷ (entity_text profile entity ++ t)) (pools_spelled decls h.behind h.order (10 ∷ rest) h.names.names.names.next)
    ∙ ap (λ (t : List ℕ). 32 ∷ t) (sym (append_assoc (entity_text profile entity) (names_text decls h.order) (10 ∷ rest)))

names_first : (profile : Profile) (decls : List Decl) (text behind rest : List ℕ) (of : NamesVerb) (entity : Entity) (pools : List ℕ) → text ≡ names_word of ++ behind → AreEntityNames profile decls behind entity pools rest → IsLineFirst profile decls text (Run (names_command of entity pools)) rest
names_first profile decls text behind rest of_names.AllOf entity pools e h = record {
  is = (h.first.of_profile, one_list decls h.behind h.order pools rest h.kept h.names);
  written = Run (command.AllOf entity h.order);
  same = (command.AllOf entity h.order, (h.order, h.kept.same, refl), refl);
  spelled = spell (codes "all_of") (32 ∷ (entity_text profile entity ++ names_text decls h.order)) text behind rest e (names_whole profile decls behind rest entity pools h);
}
names_first profile decls text behind rest of_names.AnyOf entity pools e h = record {
  is = (h.first.of_profile, one_list decls h.behind h.order pools rest h.kept h.names);
  written = Run (command.AnyOf entity h.order);
  same = (command.AnyOf entity h.order, (h.order, h.kept.same, refl), refl);
  spelled = spell (codes "any_of") (32 ∷ (entity_text profile entity ++ names_text decls h.order)) text behind rest e (names_whole profile decls behind rest entity pools h);
}

-- the text of a value of a field behind its identifier
pub field_whole : (entity field value rest : List ℕ) → 32 ∷ (entity ++ 32 ∷ (field ++ 32 ∷ (value ++ 10 ∷ rest))) ≡ (32 ∷ (entity ++ 32 ∷ (field ++ 32 ∷ value))) ++ 10 ∷ rest
field_whole entity field value rest =
    ap (λ (t : List ℕ). 32 ∷ (entity ++ 32 ∷ t)) (sym (append_assoc field (32 ∷ value) (10 ∷ rest)))
    ∙ ap (λ (t : List ℕ). 32 ∷ t) (sym (append_assoc entity (32 ∷ (field ++ 32 ∷ value)) (10 ∷ rest)))

pub pair_whole : (a b rest : List ℕ) → 32 ∷ (a ++ 32 ∷ (b ++ 10 ∷ rest)) ≡ (32 ∷ (a ++ 32 ∷ b)) ++ 10 ∷ rest
pair_whole a b rest = ap (λ (t : List ℕ). 32 ∷ t) (sym (append_assoc a (32 ∷ b) (10 ∷ rest)))

view_first : (profile : Profile) (decls : List Decl) (text behind rest : List ℕ) (all without : List ℕ) → text ≡ codes "view" ++ behind → IsViewLast decls behind all without rest → IsLineFirst profile decls text (Run (command.View all without)) rest
view_first profile decls text behind rest all without e h = record {
  is = kept_lists decls h.order h.excluded all without h.kept h.kept_out (pools_called decls behind h.order h.behind h.names.names.next)
      (part_called decls h.order (codes " not") h.behind h.excluded (10 ∷ rest) h.out) h.names.some h.few (part_once decls h.order (codes " not") h.behind h.excluded (10 ∷ rest) h.names.names.once h.out);
  written = Run (command.View h.order h.excluded);
  same = (command.View h.order h.excluded, (h.order, h.excluded, h.kept.same, h.kept_out.same, refl), refl);
  spelled = spell (codes "view") (names_text decls h.order ++ part_text (codes " not") decls h.excluded) text behind rest e
      (pools_spelled decls behind h.order h.behind h.names.names.next ∙ ap (λ (t : List ℕ). names_text decls h.order ++ t) (part_spelled decls h.order (codes " not") h.behind h.excluded (10 ∷ rest) h.out)
      ∙ sym (append_assoc (names_text decls h.order) (part_text (codes " not") decls h.excluded) (10 ∷ rest)));
}

-- a word and what stands behind it are a line
pub line_first : (profile : Profile) (decls : List Decl) (text behind rest : List ℕ) (v : Verb) (line : ScriptLine) → text ≡ word_of v ++ behind → IsLineBehind profile decls v behind line rest → IsLineFirst profile decls text line rest
line_first profile decls text behind rest (verb.Plain of) line e h = subst (λ (l : ScriptLine). IsLineFirst profile decls text l rest) (sym h.1) (plain_first profile decls text behind rest of e h.0)
line_first profile decls text behind rest (verb.OfEntity of) line e h = subst (λ (l : ScriptLine). IsLineFirst profile decls text l rest) (sym h.2) (entity_first profile decls text behind rest of h.0 e h.1)
line_first profile decls text behind rest (verb.OfEntry of) line e h = subst (λ (l : ScriptLine). IsLineFirst profile decls text l rest) (sym h.3) (entry_first profile decls text behind rest of h.0 h.1 e h.2)
line_first profile decls text behind rest (verb.OfRow of) line e h = subst (λ (l : ScriptLine). IsLineFirst profile decls text l rest) (sym h.4) (row_first profile decls text behind rest of h.0 h.1 h.2 e h.3)
line_first profile decls text behind rest (verb.OfNames of) line e h = subst (λ (l : ScriptLine). IsLineFirst profile decls text l rest) (sym h.3) (names_first profile decls text behind rest of h.0 h.1 e h.2)
line_first profile decls text behind rest verb.Patch line e h = subst (λ (l : ScriptLine). IsLineFirst profile decls text l rest) (sym h.5) (record {
  is = (h.4.is, h.4.may_set);
  written = Run (command.Patch h.0 h.1 h.2 h.3);
  same = (command.Patch h.0 h.1 h.2 h.3, refl, refl);
  spelled = spell (codes "patch") (32 ∷ (entity_text profile h.0 ++ 32 ∷ (field_text decls h.1 h.2 ++ 32 ∷ field_value_text profile decls h.1 h.2 h.3))) text behind rest e
      (h.4.whole ∙ field_whole (entity_text profile h.0) (field_text decls h.1 h.2) (field_value_text profile decls h.1 h.2 h.3) rest);
})
line_first profile decls text behind rest verb.Clear line e h = subst (λ (l : ScriptLine). IsLineFirst profile decls text l rest) (sym h.2) (record {
  is = h.1.called;
  written = Run (command.Clear h.0);
  same = (command.Clear h.0, refl, refl);
  spelled = spell (codes "clear") (32 ∷ name_at decls h.0) text behind rest e h.1.whole;
})
line_first profile decls text behind rest verb.View line e h = subst (λ (l : ScriptLine). IsLineFirst profile decls text l rest) (sym h.3) (view_first profile decls text behind rest h.0 h.1 e h.2)
line_first profile decls text behind rest verb.Group line e h = subst (λ (l : ScriptLine). IsLineFirst profile decls text l rest) (sym h.2) (record {
  is = h.1.is;
  written = Run (command.Group h.1.written);
  same = (command.Group h.1.written, (h.1.written, h.1.same, refl), refl);
  spelled = spell (codes "group") (group_text decls h.1.written) text behind rest e h.1.spelled;
})
line_first profile decls text behind rest verb.Members line e h = subst (λ (l : ScriptLine). IsLineFirst profile decls text l rest) (sym h.2) (record {
  is = h.1.within;
  written = Run (command.Members h.0);
  same = (command.Members h.0, refl, refl);
  spelled = spell (codes "members") (32 ∷ decimal h.0) text behind rest e h.1.whole;
})
line_first profile decls text behind rest verb.Sort line e (inl h) = subst (λ (l : ScriptLine). IsLineFirst profile decls text l rest) (sym h.3) (record {
  is = record { called = h.2.key.called; of_kind = h.2.key.of_kind };
  written = Run (command.SortPool h.0 h.1);
  same = (command.SortPool h.0 h.1, refl, refl);
  spelled = spell (codes "sort") (codes " pool " ++ field_text decls h.0 h.1) text behind rest e (h.2.begins ∙ ap (λ (t : List ℕ). codes " pool" ++ t) h.2.key.whole);
})
line_first profile decls text behind rest verb.Sort line e (inr h) = subst (λ (l : ScriptLine). IsLineFirst profile decls text l rest) (sym h.4) (record {
  is = (h.3.number.within, record { called = h.3.key.called; of_kind = h.3.key.of_kind });
  written = Run (command.SortGroup h.0 h.1 h.2);
  same = (command.SortGroup h.0 h.1 h.2, refl, refl);
  spelled = spell (codes "sort") (codes " group " ++ (decimal h.0 ++ 32 ∷ field_text decls h.1 h.2)) text behind rest e
      (h.3.begins ∙ ap (λ (t : List ℕ). codes " group" ++ t) (h.3.number.whole ∙ ap (λ (t : List ℕ). 32 ∷ (decimal h.0 ++ t)) h.3.key.whole)
      ∙ ap (λ (t : List ℕ). codes " group " ++ t) (sym (append_assoc (decimal h.0) (32 ∷ field_text decls h.1 h.2) (10 ∷ rest))));
})
line_first profile decls text behind rest verb.Watch line e h = subst (λ (l : ScriptLine). IsLineFirst profile decls text l rest) (sym h.3) (record {
  is = h.2.called;
  written = Watch h.0 h.1;
  same = refl;
  spelled = spell (codes "watch") (32 ∷ (event_word h.0 ++ 32 ∷ name_at decls h.1)) text behind rest e (h.2.whole ∙ pair_whole (event_word h.0) (name_at decls h.1) rest);
})
line_first profile decls text behind rest verb.Unwatch line e h = subst (λ (l : ScriptLine). IsLineFirst profile decls text l rest) (sym h.2) (record {
  is = h.1.within;
  written = Unwatch h.0;
  same = refl;
  spelled = spell (codes "unwatch") (32 ∷ decimal h.0) text behind rest e h.1.whole;
})
