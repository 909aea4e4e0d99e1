use Rattle.std.proofs.Common.{◌≡◌, ap, ap₂, sym, subst, ◌∙◌}
use Rattle.std.specs.List.{zip}
use Rattle.entity_id.specs.FiniteMap as entries
use Rattle.registry.proofs.MapListLemmas.{zip_back}
use Rattle.registry.proofs.parts.saving.save_rows.Goals as goal

pub sort-requires : goal.sort-requires
sort-requires c =
    let same : c.in_ok-rows.rows.items ≡ c.args.storage.now.pairs = c.in_ok-rows.ensures ∙ ap₂ zip (c.packed.ensures.list ∙ c.index.ensures.list) c.values.ensures ∙ zip_back c.args.storage.now.pairs in
    subst entries.HasEachOnce (sym same) c.index.ensures.once

pub returns : goal.returns
returns c =
    let same : c.in_ok-rows.rows.items ≡ c.args.storage.now.pairs = c.in_ok-rows.ensures ∙ ap₂ zip (c.packed.ensures.list ∙ c.index.ensures.list) c.values.ensures ∙ zip_back c.args.storage.now.pairs in
    c.sort.ensures ∙ ap entries.map_of same
