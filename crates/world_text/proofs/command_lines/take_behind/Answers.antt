use Rattle.std.proofs.Common.{List, sym, subst}
use Rattle.world_model.specs.declared.component.Decl.{Decl}
use Rattle.world_text.specs.declared.verbs.Verb.{Verb}
use Rattle.world_text.specs.declared.verbs.Verb.TheVariants as verb
use Rattle.world_text.specs.Formats.{version_1}
use Rattle.world_text.specs.ScriptReading.{IsLineBehind}
use Rattle.world_text.proofs.Faults.{found_ok, none_bad}
use Rattle.world_text.proofs.command_lines.take_behind.Goals as goal

pub returns-in-Plain-clause-ok : goal.returns-in-Plain-clause-ok
returns-in-Plain-clause-ok c =
    found_ok (λ x. (decls : List Decl) → IsLineBehind version_1.profile decls (verb.Plain c.in-Plain.of) c.args.text.now x.0 x.1.now) (λ x. IsLineBehind version_1.profile c.args.decls.now c.args.verb c.args.text.now x.0 x.1.now) c.take_plain.result c.ok_or.result c.ok_or.ensures.value c.take_plain.ensures.some
    (λ x h. subst (λ (v : Verb). IsLineBehind version_1.profile c.args.decls.now v c.args.text.now x.0 x.1.now) (sym c.in-Plain.is) (h c.args.decls.now))

pub returns-in-Plain-clause-bad : goal.returns-in-Plain-clause-bad
returns-in-Plain-clause-bad c = λ bad line rest h.
    none_bad _ c.take_plain.result c.ok_or.result c.ok_or.ensures.value c.take_plain.ensures.none bad c.args.decls.now line rest (subst (λ (v : Verb). IsLineBehind version_1.profile c.args.decls.now v c.args.text.now line rest) c.in-Plain.is h)

pub returns-in-OfEntity-clause-ok : goal.returns-in-OfEntity-clause-ok
returns-in-OfEntity-clause-ok c =
    found_ok (λ x. (decls : List Decl) → IsLineBehind version_1.profile decls (verb.OfEntity c.in-OfEntity.of) c.args.text.now x.0 x.1.now) (λ x. IsLineBehind version_1.profile c.args.decls.now c.args.verb c.args.text.now x.0 x.1.now) c.take_of_entity.result c.ok_or-in-OfEntity.result c.ok_or-in-OfEntity.ensures.value c.take_of_entity.ensures.some
    (λ x h. subst (λ (v : Verb). IsLineBehind version_1.profile c.args.decls.now v c.args.text.now x.0 x.1.now) (sym c.in-OfEntity.is) (h c.args.decls.now))

pub returns-in-OfEntity-clause-bad : goal.returns-in-OfEntity-clause-bad
returns-in-OfEntity-clause-bad c = λ bad line rest h.
    none_bad _ c.take_of_entity.result c.ok_or-in-OfEntity.result c.ok_or-in-OfEntity.ensures.value c.take_of_entity.ensures.none bad c.args.decls.now line rest (subst (λ (v : Verb). IsLineBehind version_1.profile c.args.decls.now v c.args.text.now line rest) c.in-OfEntity.is h)

pub returns-in-OfEntry-clause-bad : goal.returns-in-OfEntry-clause-bad
returns-in-OfEntry-clause-bad c = λ bad line rest h.
    none_bad _ c.take_of_entry.result c.ok_or-in-OfEntry.result c.ok_or-in-OfEntry.ensures.value c.take_of_entry.ensures.none bad line rest (subst (λ (v : Verb). IsLineBehind version_1.profile c.args.decls.now v c.args.text.now line rest) c.in-OfEntry.is h)

pub returns-in-OfRow-clause-bad : goal.returns-in-OfRow-clause-bad
returns-in-OfRow-clause-bad c = λ bad line rest h.
    none_bad _ c.take_of_row.result c.ok_or-in-OfRow.result c.ok_or-in-OfRow.ensures.value c.take_of_row.ensures.none bad line rest (subst (λ (v : Verb). IsLineBehind version_1.profile c.args.decls.now v c.args.text.now line rest) c.in-OfRow.is h)

pub returns-in-OfNames-clause-bad : goal.returns-in-OfNames-clause-bad
returns-in-OfNames-clause-bad c = λ bad line rest h.
    c.take_of_names.ensures.bad bad line rest (subst (λ (v : Verb). IsLineBehind version_1.profile c.args.decls.now v c.args.text.now line rest) c.in-OfNames.is h)

pub returns-in-Patch-clause-bad : goal.returns-in-Patch-clause-bad
returns-in-Patch-clause-bad c = λ bad line rest h.
    none_bad _ c.take_patch.result c.ok_or-in-Patch.result c.ok_or-in-Patch.ensures.value c.take_patch.ensures.none bad line rest (subst (λ (v : Verb). IsLineBehind version_1.profile c.args.decls.now v c.args.text.now line rest) c.in-Patch.is h)

pub returns-in-Clear-clause-bad : goal.returns-in-Clear-clause-bad
returns-in-Clear-clause-bad c = λ bad line rest h.
    none_bad _ c.take_clear.result c.ok_or-in-Clear.result c.ok_or-in-Clear.ensures.value c.take_clear.ensures.none bad line rest (subst (λ (v : Verb). IsLineBehind version_1.profile c.args.decls.now v c.args.text.now line rest) c.in-Clear.is h)

pub returns-in-View-clause-bad : goal.returns-in-View-clause-bad
returns-in-View-clause-bad c = λ bad line rest h.
    c.take_view.ensures.bad bad line rest (subst (λ (v : Verb). IsLineBehind version_1.profile c.args.decls.now v c.args.text.now line rest) c.in-View.is h)

pub returns-in-Group-clause-bad : goal.returns-in-Group-clause-bad
returns-in-Group-clause-bad c = λ bad line rest h.
    c.take_group_line.ensures.bad bad line rest (subst (λ (v : Verb). IsLineBehind version_1.profile c.args.decls.now v c.args.text.now line rest) c.in-Group.is h)

pub returns-in-Members-clause-ok : goal.returns-in-Members-clause-ok
returns-in-Members-clause-ok c =
    found_ok (λ x. (decls : List Decl) → IsLineBehind version_1.profile decls verb.Members c.args.text.now x.0 x.1.now) (λ x. IsLineBehind version_1.profile c.args.decls.now c.args.verb c.args.text.now x.0 x.1.now) c.take_members.result c.ok_or-in-Members.result c.ok_or-in-Members.ensures.value c.take_members.ensures.some
    (λ x h. subst (λ (v : Verb). IsLineBehind version_1.profile c.args.decls.now v c.args.text.now x.0 x.1.now) (sym c.in-Members.is) (h c.args.decls.now))

pub returns-in-Members-clause-bad : goal.returns-in-Members-clause-bad
returns-in-Members-clause-bad c = λ bad line rest h.
    none_bad _ c.take_members.result c.ok_or-in-Members.result c.ok_or-in-Members.ensures.value c.take_members.ensures.none bad c.args.decls.now line rest (subst (λ (v : Verb). IsLineBehind version_1.profile c.args.decls.now v c.args.text.now line rest) c.in-Members.is h)

pub returns-in-Sort-clause-bad : goal.returns-in-Sort-clause-bad
returns-in-Sort-clause-bad c = λ bad line rest h.
    none_bad _ c.take_sort.result c.ok_or-in-Sort.result c.ok_or-in-Sort.ensures.value c.take_sort.ensures.none bad line rest (subst (λ (v : Verb). IsLineBehind version_1.profile c.args.decls.now v c.args.text.now line rest) c.in-Sort.is h)

pub returns-in-Watch-clause-bad : goal.returns-in-Watch-clause-bad
returns-in-Watch-clause-bad c = λ bad line rest h.
    none_bad _ c.take_watch.result c.ok_or-in-Watch.result c.ok_or-in-Watch.ensures.value c.take_watch.ensures.none bad line rest (subst (λ (v : Verb). IsLineBehind version_1.profile c.args.decls.now v c.args.text.now line rest) c.in-Watch.is h)

pub returns-in-Unwatch-clause-ok : goal.returns-in-Unwatch-clause-ok
returns-in-Unwatch-clause-ok c =
    found_ok (λ x. (decls : List Decl) → IsLineBehind version_1.profile decls verb.Unwatch c.args.text.now x.0 x.1.now) (λ x. IsLineBehind version_1.profile c.args.decls.now c.args.verb c.args.text.now x.0 x.1.now) c.take_unwatch.result c.ok_or-in-Unwatch.result c.ok_or-in-Unwatch.ensures.value c.take_unwatch.ensures.some
    (λ x h. subst (λ (v : Verb). IsLineBehind version_1.profile c.args.decls.now v c.args.text.now x.0 x.1.now) (sym c.in-Unwatch.is) (h c.args.decls.now))

pub returns-in-Unwatch-clause-bad : goal.returns-in-Unwatch-clause-bad
returns-in-Unwatch-clause-bad c = λ bad line rest h.
    none_bad _ c.take_unwatch.result c.ok_or-in-Unwatch.result c.ok_or-in-Unwatch.ensures.value c.take_unwatch.ensures.none bad c.args.decls.now line rest (subst (λ (v : Verb). IsLineBehind version_1.profile c.args.decls.now v c.args.text.now line rest) c.in-Unwatch.is h)
