-- A script's line begins with its word, and behind that stands the rest of it.
use Rattle.std.proofs.Common.{◌≡◌, ◌≢◌, inl, inr, ℕ, ◌+◌, ◌<◌, ◌≤◌, if◌then◌else◌, List, [], ◌∷◌, ◌++◌, All, Option, Some, None, length, codes, refl, sym, ap, subst, ◌∙◌, arith, append_assoc, IsPermutation}
use Rattle.std.specs.Str.{bytes_eq}
use Rattle.std.specs.Fmt.{decimal}
use Rattle.std.proofs.lemmas.List.Sorted.{All-permutation, IsPermutation-append, IsPermutation-refl, IsPermutation-sym, length_permutation, sum_by-IsPermutation}
use Rattle.std.proofs.lemmas.Option.{same_Some}
use Rattle.entity_id.specs.declared.entity.Profile.{Profile}
use Rattle.entity_id.specs.declared.entity.Entity.{Entity}
use Rattle.entity_id.specs.Identifiers.{IsOfProfile}
use Rattle.entity_id.specs.Texts.{entity_text, EndsNumber}
use Rattle.world_model.specs.declared.command.Command.{Command}
use Rattle.world_model.specs.declared.command.Command.TheVariants as command
use Rattle.world_model.specs.declared.component.Decl.{Decl}
use Rattle.world_model.specs.declared.component.Row.{Row}
use Rattle.world_model.specs.Conditions.{MaySet}
use Rattle.world_text.specs.declared.script.ScriptLine.{ScriptLine}
use Rattle.world_text.specs.declared.script.ScriptLine.TheVariants.{Run, Watch, Unwatch}
use Rattle.world_text.specs.declared.verbs.EntityVerb.{EntityVerb}
use Rattle.world_text.specs.declared.verbs.EntityVerb.TheVariants as of_entity
use Rattle.world_text.specs.declared.verbs.EntryVerb.{EntryVerb}
use Rattle.world_text.specs.declared.verbs.EntryVerb.TheVariants as of_entry
use Rattle.world_text.specs.declared.verbs.NamesVerb.{NamesVerb}
use Rattle.world_text.specs.declared.verbs.NamesVerb.TheVariants as of_names
use Rattle.world_text.specs.declared.verbs.PlainVerb.{PlainVerb}
use Rattle.world_text.specs.declared.verbs.PlainVerb.TheVariants as plain
use Rattle.world_text.specs.declared.verbs.RowVerb.{RowVerb}
use Rattle.world_text.specs.declared.verbs.RowVerb.TheVariants as of_row
use Rattle.world_text.specs.declared.verbs.Verb.{Verb}
use Rattle.world_text.specs.declared.verbs.Verb.TheVariants as verb
use Rattle.world_text.specs.GroupLines.{group_text}
use Rattle.row_lang.specs.NameLists.{name_at, names_text, part_text, IsCalled, AreNamedOnce}
use Rattle.row_lang.specs.FieldNames.{field_text}
use Rattle.world_text.specs.Scripts.{entry_text, row_text, field_value_text, script_line_text, event_word, IsEntry, AreLists, IsLineFirst}
use Rattle.row_lang.specs.Reading.{EndsName, IsNameSplit}
use Rattle.world_text.specs.ScriptReading.{IsLineBehind}
use Rattle.world_text.specs.Verbs.{word_of, plain_word, plain_command, entity_word, entity_command, entry_word, entry_command, row_word, row_command, names_word, names_command}
use Rattle.row_lang.proofs.NameLemmas.{IsFree, same_name_split}
use Rattle.row_lang.proofs.NameListLemmas.{times-append, pools_of_text, part_of_text, part_ends, part_is_no_name, end_is_no_name, end_is_no_not}
use Rattle.world_text.proofs.RowCommandLemmas.{row_ends}
use Rattle.world_text.proofs.ScriptLineLemmas.{field_whole, pair_whole}

-- a line's word, and what stands behind it
pub record IsSplitLine (profile : Profile) (decls : List Decl) (text : List ℕ) (line : ScriptLine) (rest : List ℕ) : Type 0 where
  pub v : Verb
  pub behind : List ℕ
  pub whole : text ≡ word_of v ++ behind
  pub ended : EndsName behind
  pub left : IsLineBehind profile decls v behind line rest

unspell : (word args text rest : List ℕ) → text ≡ ((word ++ args) ++ 10 ∷ []) ++ rest → text ≡ word ++ (args ++ 10 ∷ rest)
unspell word args text rest e = e ∙ append_assoc (word ++ args) (10 ∷ []) rest ∙ append_assoc word args (10 ∷ rest)

-- the text of a line, as it is written
as_written : (profile : Profile) (decls : List Decl) (text : List ℕ) (line written : ScriptLine) (rest : List ℕ) → (h : IsLineFirst profile decls text line rest) → h.written ≡ written → text ≡ script_line_text profile decls written ++ rest
as_written profile decls text line written rest h e = h.spelled ∙ ap (λ (l : ScriptLine). script_line_text profile decls l ++ rest) e

split_plain : (profile : Profile) (decls : List Decl) (text rest : List ℕ) (of : PlainVerb) → text ≡ plain_word of ++ ([] ++ 10 ∷ rest) → IsSplitLine profile decls text (Run (plain_command of)) rest
split_plain profile decls text rest of e = record { v = verb.Plain of; behind = 10 ∷ rest; whole = e; ended = refl; left = (refl, refl) }

split_entity : (profile : Profile) (decls : List Decl) (text rest : List ℕ) (of : EntityVerb) (entity : Entity) → IsOfProfile profile entity → text ≡ entity_word of ++ ((32 ∷ entity_text profile entity) ++ 10 ∷ rest) → IsSplitLine profile decls text (Run (entity_command of entity)) rest
split_entity profile decls text rest of entity of_profile e = record {
  v = verb.OfEntity of;
  behind = 32 ∷ (entity_text profile entity ++ 10 ∷ rest);
  whole = e;
  ended = refl;
  left = (entity, record { of_profile = of_profile; whole = refl; ended = inl (omega arith) }, refl);
}

split_entry : (profile : Profile) (decls : List Decl) (text rest : List ℕ) (of : EntryVerb) (entity : Entity) (pool : ℕ) → IsEntry profile decls entity pool → text ≡ entry_word of ++ ((32 ∷ entry_text profile decls entity pool) ++ 10 ∷ rest) → IsSplitLine profile decls text (Run (entry_command of entity pool)) rest
split_entry profile decls text rest of entity pool is e = record {
  v = verb.OfEntry of;
  behind = 32 ∷ (entry_text profile decls entity pool ++ 10 ∷ rest);
  whole = e;
  ended = refl;
  left = (entity, pool, record { is = is; whole = refl; ended = refl }, refl);
}

split_row : (profile : Profile) (decls : List Decl) (text rest : List ℕ) (of : RowVerb) (entity : Entity) (pool : ℕ) (row : Row) → IsEntry profile decls entity pool × MaySet profile decls pool row → text ≡ row_word of ++ ((32 ∷ (entry_text profile decls entity pool ++ row_text profile decls pool row)) ++ 10 ∷ rest) → IsSplitLine profile decls text (Run (row_command of entity pool row)) rest
split_row profile decls text rest of entity pool row is e = record {
  v = verb.OfRow of;
  behind = 32 ∷ ((entry_text profile decls entity pool ++ row_text profile decls pool row) ++ 10 ∷ rest);
  whole = e;
  ended = refl;
  left = (
    entity,
    pool,
    row,
    record {
      entry = record { is = is.0; whole = ap (λ (t : List ℕ). 32 ∷ t) (append_assoc (entry_text profile decls entity pool) (row_text profile decls pool row) (10 ∷ rest)); ended = row_ends profile decls pool row rest };
      may_set = is.1;
    },
    refl,
  );
}

-- ---- lists

-- the lists of a line, as they are written
record AreWritten (decls : List Decl) (order excluded : List ℕ) : Type 0 where
  pub called : All (IsCalled decls) order
  pub called_out : All (IsCalled decls) excluded
  pub some : 0 < length order
  pub few : length order + length excluded ≤ 16
  pub once : AreNamedOnce (order ++ excluded)
  pub once_all : AreNamedOnce order

written_lists : (decls : List Decl) (order excluded all without : List ℕ) → IsPermutation order all → IsPermutation excluded without → AreLists decls all without → AreWritten decls order excluded
written_lists decls order excluded all without same same_out h =
    let back = IsPermutation-sym order all same in
    let back_out = IsPermutation-sym excluded without same_out in
    let long = length_permutation order all same in
    let long_out = length_permutation excluded without same_out in
    let once : AreNamedOnce (order ++ excluded) = λ pool. subst (λ (n : ℕ). n ≤ 1) (sum_by-IsPermutation _ (order ++ excluded) (all ++ without) (IsPermutation-append order all excluded without same same_out)) (h.once pool) in
    record {
      called = All-permutation (IsCalled decls) all order back h.kept.called;
      called_out = All-permutation (IsCalled decls) without excluded back_out h.kept_without.called;
      some = omega (arith, h.bounds.some);
      few = omega (arith, h.bounds.few);
      once = once;
      once_all = λ pool. (let both = times-append pool order excluded in let most = once pool in omega arith);
    }

names_number : (decls : List Decl) (pools rest : List ℕ) → EndsNumber (names_text decls pools ++ 10 ∷ rest)
names_number decls [] rest = inl (omega arith)
names_number decls (pool ∷ pools) rest = inl (omega arith)

split_names : (profile : Profile) (decls : List Decl) (text rest : List ℕ) (of : NamesVerb) (entity : Entity) (pools order : List ℕ) → IsOfProfile profile entity × AreLists decls pools [] → IsPermutation order pools → text ≡ names_word of ++ ((32 ∷ (entity_text profile entity ++ names_text decls order)) ++ 10 ∷ rest) → IsSplitLine profile decls text (Run (names_command of entity pools)) rest
split_names profile decls text rest of entity pools order is same e =
    let lists = written_lists decls order [] pools [] same (IsPermutation-refl []) is.1 in
    record {
      v = verb.OfNames of;
      behind = 32 ∷ ((entity_text profile entity ++ names_text decls order) ++ 10 ∷ rest);
      whole = e;
      ended = refl;
      left = (
        entity,
        pools,
        record {
          order = order;
          behind = names_text decls order ++ 10 ∷ rest;
          first = record { of_profile = is.0; whole = ap (λ (t : List ℕ). 32 ∷ t) (append_assoc (entity_text profile entity) (names_text decls order) (10 ∷ rest)); ended = names_number decls order rest };
          names = record {
            names = record {
              names = record { next = pools_of_text decls (names_text decls order ++ 10 ∷ rest) order (10 ∷ rest) lists.called refl refl; once = lists.once_all; last = end_is_no_name decls rest };
              some = lists.some;
            };
            few = omega (arith, lists.few);
          };
          kept = record { same = same; ascending = is.1.kept.ascending };
        },
        refl,
      );
    }

split_view : (profile : Profile) (decls : List Decl) (text rest : List ℕ) (all without order excluded : List ℕ) → AreLists decls all without → IsPermutation order all → IsPermutation excluded without → text ≡ codes "view" ++ ((names_text decls order ++ part_text (codes " not") decls excluded) ++ 10 ∷ rest) → IsSplitLine profile decls text (Run (command.View all without)) rest
split_view profile decls text rest all without order excluded is same same_out e =
    let lists = written_lists decls order excluded all without same same_out is in
    let later = part_text (codes " not") decls excluded ++ 10 ∷ rest in
    let behind = (names_text decls order ++ part_text (codes " not") decls excluded) ++ 10 ∷ rest in
    let spelled : behind ≡ names_text decls order ++ later = append_assoc (names_text decls order) (part_text (codes " not") decls excluded) (10 ∷ rest) in
    record {
      v = verb.View;
      behind = behind;
      whole = e;
      ended = subst EndsName (sym spelled) (view_ends order later lists.some);
      left = (
        all,
        without,
        record {
          order = order;
          excluded = excluded;
          behind = later;
          names = record {
            names = record { next = pools_of_text decls behind order later lists.called (part_ends decls (codes "not") excluded (10 ∷ rest) refl) spelled; once = lists.once_all; last = part_is_no_name decls (codes "not") excluded (10 ∷ rest) (refl, (refl, (refl, tt))) refl (end_is_no_name decls rest) };
            some = lists.some;
          };
          out = part_of_text decls order (codes " not") later excluded (10 ∷ rest) lists.called_out lists.once refl (end_is_no_not rest) (end_is_no_name decls rest) refl;
          few = lists.few;
          kept = record { same = same; ascending = is.kept.ascending };
          kept_out = record { same = same_out; ascending = is.kept_without.ascending };
        },
        refl,
      );
    }
  where
    view_ends : (order later : List ℕ) → 0 < length order → EndsName (names_text decls order ++ later)
    view_ends [] later some = absurd (omega arith)
    view_ends (pool ∷ order) later some = refl

-- ---- each line

split_run : (profile : Profile) (decls : List Decl) (text : List ℕ) (c : Command) (rest : List ℕ) → IsLineFirst profile decls text (Run c) rest → IsSplitLine profile decls text (Run c) rest
split_run profile decls text command.Create rest h = split_plain profile decls text rest plain.Create (unspell (codes "create") [] text rest (as_written profile decls text (Run command.Create) (Run command.Create) rest h (h.same.2 ∙ ap Run h.same.1)))
split_run profile decls text command.Alive rest h = split_plain profile decls text rest plain.Alive (unspell (codes "alive") [] text rest (as_written profile decls text (Run command.Alive) (Run command.Alive) rest h (h.same.2 ∙ ap Run h.same.1)))
split_run profile decls text command.Size rest h = split_plain profile decls text rest plain.Size (unspell (codes "size") [] text rest (as_written profile decls text (Run command.Size) (Run command.Size) rest h (h.same.2 ∙ ap Run h.same.1)))
split_run profile decls text (command.Hint e) rest h = split_entity profile decls text rest of_entity.Hint e h.is (unspell (codes "hint") (32 ∷ entity_text profile e) text rest (as_written profile decls text (Run (command.Hint e)) (Run (command.Hint e)) rest h (h.same.2 ∙ ap Run h.same.1)))
split_run profile decls text (command.Destroy e) rest h = split_entity profile decls text rest of_entity.Destroy e h.is (unspell (codes "destroy") (32 ∷ entity_text profile e) text rest (as_written profile decls text (Run (command.Destroy e)) (Run (command.Destroy e)) rest h (h.same.2 ∙ ap Run h.same.1)))
split_run profile decls text (command.Valid e) rest h = split_entity profile decls text rest of_entity.Valid e h.is (unspell (codes "valid") (32 ∷ entity_text profile e) text rest (as_written profile decls text (Run (command.Valid e)) (Run (command.Valid e)) rest h (h.same.2 ∙ ap Run h.same.1)))
split_run profile decls text (command.Orphan e) rest h = split_entity profile decls text rest of_entity.Orphan e h.is (unspell (codes "orphan") (32 ∷ entity_text profile e) text rest (as_written profile decls text (Run (command.Orphan e)) (Run (command.Orphan e)) rest h (h.same.2 ∙ ap Run h.same.1)))
split_run profile decls text (command.Remove e pool) rest h = split_entry profile decls text rest of_entry.Remove e pool h.is (unspell (codes "remove") (32 ∷ entry_text profile decls e pool) text rest (as_written profile decls text (Run (command.Remove e pool)) (Run (command.Remove e pool)) rest h (h.same.2 ∙ ap Run h.same.1)))
split_run profile decls text (command.Erase e pool) rest h = split_entry profile decls text rest of_entry.Erase e pool h.is (unspell (codes "erase") (32 ∷ entry_text profile decls e pool) text rest (as_written profile decls text (Run (command.Erase e pool)) (Run (command.Erase e pool)) rest h (h.same.2 ∙ ap Run h.same.1)))
split_run profile decls text (command.Get e pool) rest h = split_entry profile decls text rest of_entry.Get e pool h.is (unspell (codes "get") (32 ∷ entry_text profile decls e pool) text rest (as_written profile decls text (Run (command.Get e pool)) (Run (command.Get e pool)) rest h (h.same.2 ∙ ap Run h.same.1)))
split_run profile decls text (command.Emplace e pool row) rest h = split_row profile decls text rest of_row.Emplace e pool row h.is (unspell (codes "emplace") (32 ∷ (entry_text profile decls e pool ++ row_text profile decls pool row)) text rest (as_written profile decls text (Run (command.Emplace e pool row)) (Run (command.Emplace e pool row)) rest h (h.same.2 ∙ ap Run h.same.1)))
split_run profile decls text (command.EmplaceOrReplace e pool row) rest h = split_row profile decls text rest of_row.EmplaceOrReplace e pool row h.is (unspell (codes "emplace_or_replace") (32 ∷ (entry_text profile decls e pool ++ row_text profile decls pool row)) text rest (as_written profile decls text (Run (command.EmplaceOrReplace e pool row)) (Run (command.EmplaceOrReplace e pool row)) rest h (h.same.2 ∙ ap Run h.same.1)))
split_run profile decls text (command.Replace e pool row) rest h = split_row profile decls text rest of_row.Replace e pool row h.is (unspell (codes "replace") (32 ∷ (entry_text profile decls e pool ++ row_text profile decls pool row)) text rest (as_written profile decls text (Run (command.Replace e pool row)) (Run (command.Replace e pool row)) rest h (h.same.2 ∙ ap Run h.same.1)))
split_run profile decls text (command.AllOf e pools) rest h =
    let order = h.same.1 in
    split_names profile decls text rest of_names.AllOf e pools order.0 h.is order.1 (unspell (codes "all_of") (32 ∷ (entity_text profile e ++ names_text decls order.0)) text rest (as_written profile decls text (Run (command.AllOf e pools)) (Run (command.AllOf e order.0)) rest h (h.same.2 ∙ ap Run order.2)))
split_run profile decls text (command.AnyOf e pools) rest h =
    let order = h.same.1 in
    split_names profile decls text rest of_names.AnyOf e pools order.0 h.is order.1 (unspell (codes "any_of") (32 ∷ (entity_text profile e ++ names_text decls order.0)) text rest (as_written profile decls text (Run (command.AnyOf e pools)) (Run (command.AnyOf e order.0)) rest h (h.same.2 ∙ ap Run order.2)))
split_run profile decls text (command.Patch e pool field value) rest h = record {
  v = verb.Patch;
  behind = (32 ∷ (entity_text profile e ++ 32 ∷ (field_text decls pool field ++ 32 ∷ field_value_text profile decls pool field value))) ++ 10 ∷ rest;
  whole = unspell (codes "patch") (32 ∷ (entity_text profile e ++ 32 ∷ (field_text decls pool field ++ 32 ∷ field_value_text profile decls pool field value))) text rest (as_written profile decls text (Run (command.Patch e pool field value)) (Run (command.Patch e pool field value)) rest h (h.same.2 ∙ ap Run h.same.1));
  ended = refl;
  left = (e, pool, field, value, record { is = h.is.0; may_set = h.is.1; whole = sym (field_whole (entity_text profile e) (field_text decls pool field) (field_value_text profile decls pool field value) rest) }, refl);
}
split_run profile decls text (command.Clear pool) rest h = record {
  v = verb.Clear;
  behind = 32 ∷ (name_at decls pool ++ 10 ∷ rest);
  whole = unspell (codes "clear") (32 ∷ name_at decls pool) text rest (as_written profile decls text (Run (command.Clear pool)) (Run (command.Clear pool)) rest h (h.same.2 ∙ ap Run h.same.1));
  ended = refl;
  left = (pool, record { called = h.is; whole = refl; ended = refl }, refl);
}
split_run profile decls text (command.View all without) rest h =
    let lists = h.same.1 in
    split_view profile decls text rest all without lists.0 lists.1 h.is lists.2 lists.3 (unspell (codes "view") (names_text decls lists.0 ++ part_text (codes " not") decls lists.1) text rest (as_written profile decls text (Run (command.View all without)) (Run (command.View lists.0 lists.1)) rest h (h.same.2 ∙ ap Run lists.4)))
split_run profile decls text (command.Group group) rest h =
    let order = h.same.1 in
    record {
      v = verb.Group;
      behind = group_text decls order.0 ++ 10 ∷ rest;
      whole = unspell (codes "group") (group_text decls order.0) text rest (as_written profile decls text (Run (command.Group group)) (Run (command.Group order.0)) rest h (h.same.2 ∙ ap Run order.2));
      ended = refl;
      left = (group, record { is = h.is; written = order.0; same = order.1; spelled = refl }, refl);
    }
split_run profile decls text (command.Members group) rest h = record {
  v = verb.Members;
  behind = 32 ∷ (decimal group ++ 10 ∷ rest);
  whole = unspell (codes "members") (32 ∷ decimal group) text rest (as_written profile decls text (Run (command.Members group)) (Run (command.Members group)) rest h (h.same.2 ∙ ap Run h.same.1));
  ended = refl;
  left = (group, record { within = h.is; whole = refl; ended = inl (omega arith) }, refl);
}
split_run profile decls text (command.SortPool pool field) rest h = record {
  v = verb.Sort;
  behind = codes " pool " ++ (field_text decls pool field ++ 10 ∷ rest);
  whole = unspell (codes "sort") (codes " pool " ++ field_text decls pool field) text rest (as_written profile decls text (Run (command.SortPool pool field)) (Run (command.SortPool pool field)) rest h (h.same.2 ∙ ap Run h.same.1));
  ended = refl;
  left = inl (pool, field, record { behind = 32 ∷ (field_text decls pool field ++ 10 ∷ rest); begins = refl; key = record { called = h.is.called; of_kind = h.is.of_kind; whole = refl; ended = refl } }, refl);
}
split_run profile decls text (command.SortGroup group pool field) rest h =
    let later = 32 ∷ (field_text decls pool field ++ 10 ∷ rest) in
    record {
      v = verb.Sort;
      behind = codes " group " ++ ((decimal group ++ 32 ∷ field_text decls pool field) ++ 10 ∷ rest);
      whole = unspell (codes "sort") (codes " group " ++ (decimal group ++ 32 ∷ field_text decls pool field)) text rest (as_written profile decls text (Run (command.SortGroup group pool field)) (Run (command.SortGroup group pool field)) rest h (h.same.2 ∙ ap Run h.same.1));
      ended = refl;
      left = inr (
        group,
        pool,
        field,
        record {
          behind = 32 ∷ (decimal group ++ later);
          later = later;
          begins = ap (λ (t : List ℕ). codes " group " ++ t) (append_assoc (decimal group) (32 ∷ field_text decls pool field) (10 ∷ rest));
          number = record { within = h.is.0; whole = refl; ended = inl (omega arith) };
          key = record { called = h.is.1.called; of_kind = h.is.1.of_kind; whole = refl; ended = refl };
        },
        refl,
      );
    }

-- every line
pub split_line : (profile : Profile) (decls : List Decl) (text : List ℕ) (line : ScriptLine) (rest : List ℕ) → IsLineFirst profile decls text line rest → IsSplitLine profile decls text line rest
split_line profile decls text (Run c) rest h = split_run profile decls text c rest h
split_line profile decls text (Watch kind pool) rest h = record {
  v = verb.Watch;
  behind = (32 ∷ (event_word kind ++ 32 ∷ name_at decls pool)) ++ 10 ∷ rest;
  whole = unspell (codes "watch") (32 ∷ (event_word kind ++ 32 ∷ name_at decls pool)) text rest (as_written profile decls text (Watch kind pool) (Watch kind pool) rest h h.same);
  ended = refl;
  left = (kind, pool, record { called = h.is; whole = sym (pair_whole (event_word kind) (name_at decls pool) rest) }, refl);
}
split_line profile decls text (Unwatch number) rest h = record {
  v = verb.Unwatch;
  behind = 32 ∷ (decimal number ++ 10 ∷ rest);
  whole = unspell (codes "unwatch") (32 ∷ decimal number) text rest (as_written profile decls text (Unwatch number) (Unwatch number) rest h h.same);
  ended = refl;
  left = (number, record { within = h.is; whole = refl; ended = inl (omega arith) }, refl);
}

-- ---- which word it is

-- what a word says
abbrev pub verb_in : List ℕ → Option Verb
verb_in word =
    if bytes_eq word (codes "create") then Some (verb.Plain plain.Create) else
    if bytes_eq word (codes "alive") then Some (verb.Plain plain.Alive) else
    if bytes_eq word (codes "size") then Some (verb.Plain plain.Size) else
    if bytes_eq word (codes "hint") then Some (verb.OfEntity of_entity.Hint) else
    if bytes_eq word (codes "destroy") then Some (verb.OfEntity of_entity.Destroy) else
    if bytes_eq word (codes "valid") then Some (verb.OfEntity of_entity.Valid) else
    if bytes_eq word (codes "orphan") then Some (verb.OfEntity of_entity.Orphan) else
    if bytes_eq word (codes "remove") then Some (verb.OfEntry of_entry.Remove) else
    if bytes_eq word (codes "erase") then Some (verb.OfEntry of_entry.Erase) else
    if bytes_eq word (codes "get") then Some (verb.OfEntry of_entry.Get) else
    if bytes_eq word (codes "emplace") then Some (verb.OfRow of_row.Emplace) else
    if bytes_eq word (codes "emplace_or_replace") then Some (verb.OfRow of_row.EmplaceOrReplace) else
    if bytes_eq word (codes "replace") then Some (verb.OfRow of_row.Replace) else
    if bytes_eq word (codes "all_of") then Some (verb.OfNames of_names.AllOf) else
    if bytes_eq word (codes "any_of") then Some (verb.OfNames of_names.AnyOf) else
    if bytes_eq word (codes "patch") then Some verb.Patch else
    if bytes_eq word (codes "clear") then Some verb.Clear else
    if bytes_eq word (codes "view") then Some verb.View else
    if bytes_eq word (codes "group") then Some verb.Group else
    if bytes_eq word (codes "members") then Some verb.Members else
    if bytes_eq word (codes "sort") then Some verb.Sort else
    if bytes_eq word (codes "watch") then Some verb.Watch else
    if bytes_eq word (codes "unwatch") then Some verb.Unwatch else None

pub said : (v : Verb) → verb_in (word_of v) ≡ Some v
said (verb.Plain plain.Create) = refl
said (verb.Plain plain.Alive) = refl
said (verb.Plain plain.Size) = refl
said (verb.OfEntity of_entity.Hint) = refl
said (verb.OfEntity of_entity.Destroy) = refl
said (verb.OfEntity of_entity.Valid) = refl
said (verb.OfEntity of_entity.Orphan) = refl
said (verb.OfEntry of_entry.Remove) = refl
said (verb.OfEntry of_entry.Erase) = refl
said (verb.OfEntry of_entry.Get) = refl
said (verb.OfRow of_row.Emplace) = refl
said (verb.OfRow of_row.EmplaceOrReplace) = refl
said (verb.OfRow of_row.Replace) = refl
said (verb.OfNames of_names.AllOf) = refl
said (verb.OfNames of_names.AnyOf) = refl
said verb.Patch = refl
said verb.Clear = refl
said verb.View = refl
said verb.Group = refl
said verb.Members = refl
said verb.Sort = refl
said verb.Watch = refl
said verb.Unwatch = refl

-- one word is the word of one verb
pub same_verb : (a b : Verb) → word_of a ≡ word_of b → a ≡ b
same_verb a b e = same_Some a b (sym (said a) ∙ ap verb_in e ∙ said b)

pub word_free : (v : Verb) → IsFree (word_of v)
word_free (verb.Plain plain.Create) = (refl, (refl, (refl, (refl, (refl, (refl, tt))))))
word_free (verb.Plain plain.Alive) = (refl, (refl, (refl, (refl, (refl, tt)))))
word_free (verb.Plain plain.Size) = (refl, (refl, (refl, (refl, tt))))
word_free (verb.OfEntity of_entity.Hint) = (refl, (refl, (refl, (refl, tt))))
word_free (verb.OfEntity of_entity.Destroy) = (refl, (refl, (refl, (refl, (refl, (refl, (refl, tt)))))))
word_free (verb.OfEntity of_entity.Valid) = (refl, (refl, (refl, (refl, (refl, tt)))))
word_free (verb.OfEntity of_entity.Orphan) = (refl, (refl, (refl, (refl, (refl, (refl, tt))))))
word_free (verb.OfEntry of_entry.Remove) = (refl, (refl, (refl, (refl, (refl, (refl, tt))))))
word_free (verb.OfEntry of_entry.Erase) = (refl, (refl, (refl, (refl, (refl, tt)))))
word_free (verb.OfEntry of_entry.Get) = (refl, (refl, (refl, tt)))
word_free (verb.OfRow of_row.Emplace) = (refl, (refl, (refl, (refl, (refl, (refl, (refl, tt)))))))
word_free (verb.OfRow of_row.EmplaceOrReplace) = (refl, (refl, (refl, (refl, (refl, (refl, (refl, (refl, (refl, (refl, (refl, (refl, (refl, (refl, (refl, (refl, (refl, (refl, tt))))))))))))))))))
word_free (verb.OfRow of_row.Replace) = (refl, (refl, (refl, (refl, (refl, (refl, (refl, tt)))))))
word_free (verb.OfNames of_names.AllOf) = (refl, (refl, (refl, (refl, (refl, (refl, tt))))))
word_free (verb.OfNames of_names.AnyOf) = (refl, (refl, (refl, (refl, (refl, (refl, tt))))))
word_free verb.Patch = (refl, (refl, (refl, (refl, (refl, tt)))))
word_free verb.Clear = (refl, (refl, (refl, (refl, (refl, tt)))))
word_free verb.View = (refl, (refl, (refl, (refl, tt))))
word_free verb.Group = (refl, (refl, (refl, (refl, (refl, tt)))))
word_free verb.Members = (refl, (refl, (refl, (refl, (refl, (refl, (refl, tt)))))))
word_free verb.Sort = (refl, (refl, (refl, (refl, tt))))
word_free verb.Watch = (refl, (refl, (refl, (refl, (refl, tt)))))
word_free verb.Unwatch = (refl, (refl, (refl, (refl, (refl, (refl, (refl, tt)))))))

-- no line begins with another word
pub no_verb : (profile : Profile) (decls : List Decl) (text word behind : List ℕ) → IsNameSplit text word behind → ((v : Verb) → word ≢ word_of v) → (line : ScriptLine) (rest : List ℕ) → IsLineFirst profile decls text line rest → ⊥
no_verb profile decls text word behind split none line rest h =
    let s = split_line profile decls text line rest h in
    none s.v (same_name_split word (word_of s.v) behind s.behind split.free (word_free s.v) split.ended s.ended (sym split.whole ∙ s.whole)).0

-- behind the word of a line stands the rest of it
pub line_behind : (profile : Profile) (decls : List Decl) (text word behind : List ℕ) (v : Verb) → IsNameSplit text word behind → word ≡ word_of v → (line : ScriptLine) (rest : List ℕ) → IsLineFirst profile decls text line rest → IsLineBehind profile decls v behind line rest
line_behind profile decls text word behind v split is line rest h =
    let s = split_line profile decls text line rest h in
    let same = same_name_split word (word_of s.v) behind s.behind split.free (word_free s.v) split.ended s.ended (sym split.whole ∙ s.whole) in
    subst (λ (u : Verb). IsLineBehind profile decls u behind line rest) (same_verb s.v v (sym same.0 ∙ is)) (subst (λ (t : List ℕ). IsLineBehind profile decls s.v t line rest) (sym same.1) s.left)
