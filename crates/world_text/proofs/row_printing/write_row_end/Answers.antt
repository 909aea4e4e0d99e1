use Rattle.std.proofs.Common.{◌≡◌, ◌++◌, ◌∷◌, [], List, ℕ, set, drop, map, arith, ap, ◌∙◌}
use Rattle.std.specs.List.{zip}
use Rattle.std.proofs.lemmas.List.{drop-set, drop_all}
use Rattle.world_model.specs.declared.component.Kind.{Kind}
use Rattle.world_text.specs.Formats.{version_1}
use Rattle.world_text.specs.Lines.{values_text}
use Rattle.world_text.specs.Documents.{value_in, values_in}
use Rattle.world_text.proofs.PrintingLemmas.{zip-take}
use Rattle.world_text.proofs.row_printing.write_row_end.Goals as goal

pub returns-clause-written : goal.returns-clause-written
returns-clause-written c =
    let decl = c.args.decl.now in
    let row = c.args.row.now in
    let line = c.args.line.now in
    let last : drop 127 (set line 127 10) ≡ 10 ∷ [] = drop-set line 127 10 (omega arith) ∙ ap (λ (rest : List ℕ). 10 ∷ rest) (drop_all 128 line (omega arith)) in
    c.write_values.ensures.written
    ∙ ap (λ pairs. values_text version_1.profile (map (λ pair. value_in version_1.profile pair.0 pair.1) pairs) ++ drop 127 (set line 127 10)) (ap (λ (kinds : List Kind). zip kinds row.f) c.field_kinds.ensures.value ∙ zip-take decl.count decl.kinds row.f)
    ∙ ap (λ (rest : List ℕ). values_text version_1.profile (values_in version_1.profile decl row) ++ rest) last
