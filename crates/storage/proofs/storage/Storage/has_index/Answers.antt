use Rattle.std.proofs.Common.{◌≡◌, sym, ap, ◌∙◌}
use Rattle.entity_id.specs.FiniteMap as entries
use Rattle.entity_id.proofs.MapChangeLemmas.{has_index-map_of}
use Rattle.storage.proofs.ChangeLemmas.{are_pairs}
use Rattle.storage.proofs.storage.Storage.has_index.Goals as goal

pub returns : goal.returns
returns g c =
    let p = (are_pairs c.self.inside.index.list c.self.inside.values.items c.args.self.now.pairs c.self.invariant.one_each c.self.invariant.distinct (ap (λ s. s.pairs) c.self.view_is)) in
    let packed : c.has_index.result ≡ entries.has_index c.args.self.now.pairs c.args.index = c.has_index.ensures ∙ sym (p.index c.args.index) in
    record { packed = packed; map = packed ∙ sym (has_index-map_of c.args.self.now.pairs c.args.index) }
