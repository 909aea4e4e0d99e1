use Rattle.std.proofs.Common.{rules, arith, ◌≡◌, ◌++◌, ◌<◌, ◌^◌, List, ℕ, length, refl, ap, subst, ◌∙◌}
use Rattle.std.specs.List.{flat_map, AllByRecursion}
use Rattle.std.specs.Iterator.Adapters.{zip_second}
use Rattle.std.specs.Slice.Iter.{iter_rest}
use Rattle.std.proofs.lemmas.Slice.Zip.{Zip-more}
use Rattle.entity_id.specs.declared.entity.Entity.{Entity}
use Rattle.world_model.specs.declared.component.Decl.{Decl}
use Rattle.world_model.specs.declared.component.Row.{Row}
use Rattle.world_text.proofs.PrintingLemmas.{left_more, left_none, printed_more, printed_all}
use Rattle.snapshot.specs.Fields.{bytes_of}
use Rattle.snapshot.specs.Packing.{pool_fields}
use Rattle.snapshot.proofs.PackLemmas.{bytes_of-append}
use Rattle.snapshot.proofs.packing.push_pools.Goals as goal

abbrev part : Decl × List (Entity × Row) → List ℕ
part pool = bytes_of (pool_fields pool)

abbrev all : List (Decl × List (Entity × Row)) → List ℕ
all pools = bytes_of (flat_map pool_fields pools)

abbrev AreFew : List (List (Entity × Row)) → Type 0
AreFew pools = AllByRecursion (λ rows. length rows < 2 ^ 32) pools

pub loop-decl-init : goal.loop-decl-init
loop-decl-init c =
    let all_left : c.args.pools.now ≡ iter_rest (zip_second c.into_iter-decl-iterator.result) = cc in
    record { whole = search rules; few = subst AreFew all_left c.requires }

pub push_pool-requires : goal.push_pool-requires
push_pool-requires c =
    let split = Zip-more c.loop-decl.decl-iterator c.next.new.self _ _ c.in-Some.is c.next.ensures.steps in
    let few = subst AreFew split.1 c.loop-decl.invariant.few in
    omega (arith, few.0, ap length c.as_slice.ensures)

pub loop-decl-preserved : goal.loop-decl-preserved
loop-decl-preserved c =
    let decl = c.in-Some.decl.now in
    let rows = c.in-Some.rows.now in
    let pushed : c.push_pool.new.out.items ≡ c.loop-decl.out.items ++ part (decl, rows) = c.in_ok-push_pool.ensures ∙ ap (λ (shown : List (Entity × Row)). c.loop-decl.out.items ++ part (decl, shown)) c.as_slice.ensures in
    record {
      whole = printed_more all part (λ z zs. bytes_of-append (pool_fields z) (flat_map pool_fields zs)) (decl, rows) _ _
          (left_more c.loop-decl.decl-iterator c.next.new.self _ _ c.in-Some.is c.next.ensures.steps) _ _ _ pushed c.loop-decl.invariant.whole;
      few = (subst AreFew (Zip-more c.loop-decl.decl-iterator c.next.new.self _ _ c.in-Some.is c.next.ensures.steps).1 c.loop-decl.invariant.few).1;
    }

pub returns : goal.returns
returns c = printed_all all _ (left_none c.loop-decl.decl-iterator c.next.new.self _ c.in-None.is c.next.ensures.steps) refl _ _ c.loop-decl.invariant.whole
