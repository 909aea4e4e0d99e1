use Rattle.std.proofs.Common.{◌≡◌, Some, sym, ap, ◌∙◌}
use Rattle.entity_id.specs.FiniteMap as entries
use Rattle.entity_id.proofs.PackedMapLemmas.{get-map_of}
use Rattle.storage.proofs.ChangeLemmas.{are_pairs, unheld, found}
use Rattle.storage.proofs.storage.Storage.get.Goals as goal

pub returns-in-Some : goal.returns-in-Some
returns-in-Some g c =
    let p = (are_pairs c.self.inside.index.list c.self.inside.values.items c.args.self.now.pairs c.self.invariant.one_each c.self.invariant.distinct (ap (λ s. s.pairs) c.self.view_is)) in
    let value : entries.get c.args.self.now.pairs c.args.entity ≡ Some c.index.result.now = found c.self.inside.index.list c.self.inside.values.items c.args.self.now.pairs c.in-Some.place c.args.entity c.index.result.now p c.in-Some.ensures.here c.index.ensures in
    record { packed = sym value; map = sym (get-map_of c.args.self.now.pairs c.args.entity p.once ∙ value) }

pub returns-in-None : goal.returns-in-None
returns-in-None g c =
    let gone = unheld c.self.inside.index.list c.self.inside.values.items c.args.self.now.pairs c.args.entity (are_pairs c.self.inside.index.list c.self.inside.values.items c.args.self.now.pairs c.self.invariant.one_each c.self.invariant.distinct (ap (λ s. s.pairs) c.self.view_is)) (sym c.in-None.ensures.place) in
    record { packed = sym gone.value; map = sym gone.in_map }
