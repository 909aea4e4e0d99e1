use Rattle.std.proofs.Common.{◌≡◌, ◌+◌, ◌%◌, ◌^◌, ◌<◌, List, [], ℕ, length, take, get_or, sym, ap, subst, ◌∙◌, arith}
use Rattle.std.specs.Prelude.{IsPermutation, sum_by}
use Rattle.std.specs.Int.{w64, cast_unsigned}
use Rattle.std.proofs.lemmas.List.{take_all}
use Rattle.std.proofs.lemmas.List.Sums.{sum_by_more}
use Rattle.std.proofs.lemmas.Option.{slice_get_within}
use Rattle.entity_id.specs.declared.entity.Entity.{Entity}
use Rattle.entity_id.specs.FiniteMap as rows
use Rattle.world_model.specs.declared.command.Reply.TheVariants.{Refused, Values}
use Rattle.world_model.specs.declared.component.Decl.{Decl}
use Rattle.world_model.specs.declared.world.World.{World}
use Rattle.world_model.specs.Contents.{pool_at, row_at}
use Rattle.world_model.specs.Worlds.{AreLawfulRows}
use Rattle.registry.specs.Held.{Held}
use Rattle.registry.specs.Laws.{IsLawfulRegistry}
use Rattle.world_maker.specs.Summaries.{bits_sum, ints_among, ints_of}
use Rattle.world_maker.proofs.SumLemmas.{add_rest, packed_found, packed_of_pool, packed_sum, same_length}
use Rattle.world_maker.proofs.tally.bits_of_pool.Goals as goal

abbrev part : World → ℕ → Decl → Entity → ℕ
part w pool decl entity = sum_by (cast_unsigned w64) (ints_of decl (row_at w pool entity))

-- the list that was lent has the identifiers of the component's rows
listed : (held : Held) (pool : ℕ) (list : List Entity) → IsLawfulRegistry held → pool < length held.world.decls → list ≡ get_or held.packed pool [] → IsPermutation (rows.keys (pool_at held.world pool)) list
listed held pool list law within is =
    let w = held.world in
    let as_many = same_length (AreLawfulRows w.profile w.slots) w.decls w.pools law.world.pools in
    subst (IsPermutation (rows.keys (pool_at w pool))) (sym is) (packed_of_pool w.pools held.packed pool law.packed (omega (arith, as_many)))

pub unreachable-requires : goal.unreachable-requires
unreachable-requires g c =
    omega (arith, c.in_default.ensures.err.1, slice_get_within c.args.registry.now.world.decls c.args.pool c.args.decl.now c.requires)

-- each entity of the list has a row
pub unreachable-requires-in-Err : goal.unreachable-requires-in-Err
unreachable-requires-in-Err g c =
    let held = c.args.registry.now in
    let w = held.world in
    let pool = c.args.pool in
    let decl = c.args.decl.now in
    let list = c.in-Ok.list.now in
    let k = c.loop-entity.entity-index in
    let entity = get_or list k (record { index = 0; version = 0 }) in
    let perm = listed held pool list c.law.ensures (slice_get_within w.decls pool decl c.requires) c.in-Ok.ensures.ok in
    let found = packed_found w held.limit pool decl c.law.ensures.world c.requires list perm k (record { index = 0; version = 0 }) c.loop-entity-test.true in
    let both : Refused c.in-Err.field-0 ≡ Values (row_at w pool entity) = sym c.in-Err.ensures.err ∙ found in
    cc both

pub loop-entity-preserved : goal.loop-entity-preserved
loop-entity-preserved g c =
    let held = c.args.registry.now in
    let w = held.world in
    let pool = c.args.pool in
    let decl = c.args.decl.now in
    let list = c.in-Ok.list.now in
    let k = c.loop-entity.entity-index in
    let entity = get_or list k (record { index = 0; version = 0 }) in
    let perm = listed held pool list c.law.ensures (slice_get_within w.decls pool decl c.requires) c.in-Ok.ensures.ok in
    let found = packed_found w held.limit pool decl c.law.ensures.world c.requires list perm k (record { index = 0; version = 0 }) c.loop-entity-test.true in
    let both : Values c.in-Ok-get.row ≡ Values (row_at w pool entity) = sym c.in-Ok-get.ensures.ok ∙ found in
    let same : c.in-Ok-get.row ≡ row_at w pool entity = cc both in
    let adds : c.bits_of_row-sum.result ≡ part w pool decl entity % 2 ^ 64 = c.bits_of_row-sum.ensures ∙ (λ i. bits_sum (ints_among (c.field_kinds.ensures.value i) (same i).f)) in
    (λ i. (c.loop-entity.invariant i + adds i) % 2 ^ 64)
    ∙ add_rest (sum_by (part w pool decl) (take k list)) (part w pool decl entity)
    ∙ ap (λ (n : ℕ). n % 2 ^ 64) (sym (sum_by_more (part w pool decl) list k (record { index = 0; version = 0 }) c.loop-entity-test.true))

pub returns : goal.returns
returns g c =
    let held = c.args.registry.now in
    let w = held.world in
    let pool = c.args.pool in
    let decl = c.args.decl.now in
    let list = c.in-Ok.list.now in
    let perm = listed held pool list c.law.ensures (slice_get_within w.decls pool decl c.requires) c.in-Ok.ensures.ok in
    c.loop-entity.invariant
    ∙ ap (λ (xs : List Entity). sum_by (part w pool decl) xs % 2 ^ 64) (take_all c.loop-entity.entity-index list c.loop-entity-test.false)
    ∙ packed_sum w held.limit pool decl c.law.ensures.world c.requires list perm
