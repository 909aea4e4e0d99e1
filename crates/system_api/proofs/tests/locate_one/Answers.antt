use Rattle.std.proofs.Common.{◌≡◌, ◌<◌, length, sym, ap, ◌∙◌, arith}
use Rattle.std.proofs.lemmas.List.{length-map}
use Rattle.entity_id.specs.declared.entity.Entity.{Entity}
use Rattle.world_model.specs.declared.component.Row.{Row}
use Rattle.storage.specs.Stored.{Stored}
use Rattle.system_api.specs.Batches.{place_at}
use Rattle.system_api.specs.Registers.{pool_at}
use Rattle.system_api.proofs.PartingLemmas.{only_mark, place_within, both-left}
use Rattle.system_api.proofs.tests.locate_one.Goals as goal

pub scatter_at-requires-clause-there : goal.scatter_at-requires-clause-there
scatter_at-requires-clause-there g c = λ lane low marked.
    let list = c.index.result.now.list in
    let within : place_at c.locate.new.places lane < length list = place_within list _ _ _ _ (c.locate.ensures.places lane low) (c.locate.ensures.marks lane low) marked in
    let long : length list ≡ length (pool_at c.add_write.new.self.writes 0).storage.pairs = ap length c.index.ensures.list ∙ length-map c.written.result.now.pairs (λ (pair : Entity × Row). pair.0) ∙ ap (λ (s : Stored Row). length s.pairs) c.written.ensures in
    omega (arith, within, long)

pub scatter_at-requires-clause-apart : goal.scatter_at-requires-clause-apart
scatter_at-requires-clause-apart g c = λ a b low-a low-b marked-a marked-b same.
    only_mark 64 5 a (both-left _ _ (sym (c.locate.ensures.marks a low-a) ∙ marked-a))
    ∙ sym (only_mark 64 5 b (both-left _ _ (sym (c.locate.ensures.marks b low-b) ∙ marked-b)))
