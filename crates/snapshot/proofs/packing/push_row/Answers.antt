use Rattle.std.proofs.Common.{◌++◌, List, ℕ, ap, ◌∙◌}
use Rattle.std.specs.List.{flat_map}
use Rattle.std.proofs.lemmas.Result.{on_ok_weaker}
use Rattle.world_text.specs.Formats.{version_1}
use Rattle.world_text.specs.Documents.{values_in}
use Rattle.snapshot.specs.Fields.{u32_bytes, value_bytes}
use Rattle.snapshot.proofs.PackLemmas.{values_bytes, two_parts}
use Rattle.snapshot.proofs.packing.push_row.Goals as goal

pub returns : goal.returns
returns c =
    let decl = c.args.decl.now in
    let entry = c.args.entry.now in
    let same = values_bytes c.args.decl.now c.args.entry.now.1 c.field_kinds.result.now c.field_kinds.ensures.value in
    on_ok_weaker c.push_values.result (λ pushed.
    two_parts c.args.out.now.items c.push_u32.new.out.items c.push_values.new.out.items (u32_bytes entry.0.index) (flat_map value_bytes (values_in version_1.profile decl entry.1))
    c.in_ok-push_u32.ensures (pushed ∙ ap (λ (x : List ℕ). c.push_u32.new.out.items ++ x) same)) c.push_values.ensures
