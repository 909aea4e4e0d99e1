use Rattle.std.proofs.Common.{◌++◌, drop, length, sym, ap, ◌∙◌}
use Rattle.std.proofs.lemmas.List.{length-map}
use Rattle.entity_id.specs.FiniteMap as entries
use Rattle.registry.proofs.SortLemmas.{all_arranged}
use Rattle.registry.proofs.parts.sorting.sort_rows.Goals as goal

pub returns-clause-permutation : goal.returns-clause-permutation
returns-clause-permutation g c =
    let old = entries.keys c.args.stored.now.pairs in
    all_arranged old c.in_ok-order.order (entries.keys c.arrange.new.self.pairs)
    (c.in_ok-order.ensures.len ∙ sym (length-map c.args.stored.now.pairs (λ (pair : _). pair.0)))
    c.in_ok-order.ensures.permutation
    (c.arrange.ensures.keys ∙ ap (λ list. list ++ drop (length list) old) c.as_slice.ensures)
