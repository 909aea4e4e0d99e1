use Rattle.std.proofs.Common.{rules, ◌≡◌, ◌++◌, List, ℕ, refl, ap, ◌∙◌}
use Rattle.std.specs.List.{flat_map}
use Rattle.std.proofs.Math.Seq.{take-length}
use Rattle.entity_id.specs.declared.entity.Entity.{Entity}
use Rattle.world_model.specs.declared.component.Decl.{Decl}
use Rattle.world_model.specs.declared.component.Row.{Row}
use Rattle.world_text.specs.Formats.{version_1}
use Rattle.world_text.specs.Lines.{text_of}
use Rattle.world_text.specs.Documents.{pool_lines}
use Rattle.world_text.proofs.PrintingLemmas.{left_more, left_none, printed_more, printed_all, front_on, text_of-append}
use Rattle.world_text.proofs.printing.push_pools.Goals as goal

abbrev part : Decl × List (Entity × Row) → List ℕ
part pool = text_of version_1 (pool_lines version_1.profile pool)

abbrev all : List (Decl × List (Entity × Row)) → List ℕ
all pools = text_of version_1 (flat_map (pool_lines version_1.profile) pools)

pub loop-decl-init : goal.loop-decl-init
loop-decl-init c = record { whole = search rules; front = take-length c.args.out.now.items }

pub loop-decl-preserved : goal.loop-decl-preserved
loop-decl-preserved c =
    let decl = c.in-Some.decl.now in
    let rows = c.in-Some.rows.now in
    let pushed : c.push_pool.new.out.items ≡ c.loop-decl.out.items ++ part (decl, rows) = c.in_ok-push_pool.ensures.ok ∙ ap (λ (shown : List (Entity × Row)). c.loop-decl.out.items ++ part (decl, shown)) c.as_slice.ensures in
    record {
      whole = printed_more all part (λ z zs. text_of-append version_1 (pool_lines version_1.profile z) (flat_map (pool_lines version_1.profile) zs)) (decl, rows) _ _
          (left_more c.loop-decl.decl-iterator c.next.new.self _ _ c.in-Some.is c.next.ensures.steps) _ _ _ pushed c.loop-decl.invariant.whole;
      front = front_on c.args.out.now.items c.loop-decl.out.items c.push_pool.new.out.items c.loop-decl.invariant.front c.in_ok-push_pool.ensures.front;
    }

pub returns-in_err-push_pool-clause-front : goal.returns-in_err-push_pool-clause-front
returns-in_err-push_pool-clause-front c = front_on c.args.out.now.items c.loop-decl.out.items c.push_pool.new.out.items c.loop-decl.invariant.front c.in_err-push_pool.ensures.front

pub returns-clause-ok : goal.returns-clause-ok
returns-clause-ok c = printed_all all _ (left_none c.loop-decl.decl-iterator c.next.new.self _ c.in-None.is c.next.ensures.steps) refl _ _ c.loop-decl.invariant.whole

pub returns-clause-front : goal.returns-clause-front
returns-clause-front c = c.loop-decl.invariant.front
