use Rattle.std.proofs.Common.{length, ap, ◌∙◌, arith}
use Rattle.std.specs.Prelude.{List}
use Rattle.entity_id.specs.declared.entity.Entity.{Entity}
use Rattle.world_model.specs.Worlds.{AreLawfulRows}
use Rattle.world_maker.proofs.SumLemmas.{packed_length, same_length}
use Rattle.world_maker.proofs.tally.rows_in.Goals as goal

pub returns : goal.returns
returns g c =
    let held = c.args.registry.now in
    let w = held.world in
    let as_many = same_length (AreLawfulRows w.profile w.slots) w.decls w.pools c.law.ensures.world.pools in
    ap (λ (list : List Entity). length list) c.in-Ok.ensures.ok ∙ packed_length w.pools held.packed c.args.pool c.law.ensures.packed (omega (arith, as_many))
