use Rattle.std.proofs.Common.{◌≡◌, length, sym, ap, ◌∙◌}
use Rattle.entity_id.proofs.MapChangeLemmas.{length-map_of}
use Rattle.storage.proofs.ChangeLemmas.{are_pairs}
use Rattle.storage.proofs.storage.Storage.len.Goals as goal

pub returns : goal.returns
returns g c =
    let p = (are_pairs c.self.inside.index.list c.self.inside.values.items c.args.self.now.pairs c.self.invariant.one_each c.self.invariant.distinct (ap (λ s. s.pairs) c.self.view_is)) in
    let size : c.len.result ≡ length c.args.self.now.pairs = c.len.ensures ∙ sym p.len in
    record { pairs = size; map = size ∙ sym (length-map_of c.args.self.now.pairs p.once) }
