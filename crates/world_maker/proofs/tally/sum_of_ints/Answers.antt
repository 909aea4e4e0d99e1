use Rattle.std.proofs.Common.{◌≡◌, ◌<◌, ℤ, List, [], ◌++◌, length, take, get_or, to_z, w64, sym, ap, ◌∙◌, arith}
use Rattle.std.specs.List.{flat_map, zip}
use Rattle.std.proofs.lemmas.Int.{to_z-of_z}
use Rattle.std.proofs.lemmas.List.{take_all}
use Rattle.entity_id.specs.declared.entity.Entity.{Entity}
use Rattle.world_model.specs.declared.component.Decl.{Decl}
use Rattle.world_model.specs.declared.component.Row.{Row}
use Rattle.world_model.specs.Worlds.{AreLawfulRows}
use Rattle.world_maker.specs.Summaries.{bits_sum, ints_of_pool}
use Rattle.world_maker.proofs.SumLemmas.{add_bits, beside_more, same_length}
use Rattle.world_maker.proofs.tally.sum_of_ints.Goals as goal

abbrev ints_beside : Decl × List (Entity × Row) → List ℤ
ints_beside pair = ints_of_pool pair.0 pair.1

pub loop-pool-preserved : goal.loop-pool-preserved
loop-pool-preserved g c =
    let w = c.args.registry.now.world in
    let pool = c.loop-pool.pool in
    let decl = c.index-decls-pool.result in
    let within : pool < length w.decls = omega (arith, ap length c.requires) in
    let as_many = same_length (AreLawfulRows w.profile w.slots) w.decls w.pools c.law.ensures.world.pools in
    let its : decl ≡ get_or w.decls pool decl = c.index-decls-pool.is ∙ ap (λ (ds : List Decl). get_or ds pool decl) c.requires in
    let before = flat_map ints_beside (zip (take pool w.decls) w.pools) in
    let more = beside_more ints_beside w.decls w.pools pool decl [] within (omega (arith, as_many)) ∙ ap (λ (d : Decl). before ++ ints_of_pool d (get_or w.pools pool [])) (sym its) in
    add_bits c.loop-pool.sum c.bits_of_pool-sum.result before (ints_of_pool decl (get_or w.pools pool [])) _ c.loop-pool.invariant c.bits_of_pool-sum.ensures more

pub returns : goal.returns
returns g c =
    let w = c.args.registry.now.world in
    let all = take_all c.loop-pool.pool w.decls (omega (arith, ap length c.requires)) in
    to_z-of_z w64 c.cast_signed.result (record { sfits = c.cast_signed.type_inv })
    ∙ c.cast_signed.ensures
    ∙ ap (to_z w64) (c.loop-pool.invariant ∙ ap (λ (ds : List Decl). bits_sum (flat_map ints_beside (zip ds w.pools))) all)
