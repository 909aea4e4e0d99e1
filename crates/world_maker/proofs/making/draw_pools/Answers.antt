use Rattle.std.proofs.Common.{◌≡◌, ℕ, ◌+◌, ◌*◌, ◌%◌, sym, ap, ◌∙◌, arith}
use Rattle.world_maker.specs.Draws.{draws_behind, draw_of}
use Rattle.world_maker.specs.Making.{entity_rows, with_entity}
use Rattle.world_maker.proofs.DrawLemmas.{behind-add, its_draws, rows_more}
use Rattle.world_maker.proofs.making.draw_pools.Goals as goal

pub loop-index-preserved : goal.loop-index-preserved
loop-index-preserved c =
    let number = c.args.number in
    let count = c.args.count in
    let index = c.loop-index.index in
    let last = c.loop-index.invariant.last in
    let its : draws_behind c.loop-index.draws.last ≡ draw_of number index = ap draws_behind last ∙ its_draws number index in
    let rows = c.draw_rows-rows.ensures.rows ∙ ap (entity_rows count) its in
    let ten : 10 * index + 10 ≡ 10 * (index + 1) = omega arith in
    record {
      pools = c.in_ok-push.ensures ∙ (λ i. with_entity (c.loop-index.invariant.pools i) (c.first_owner.ensures i) (rows i)) ∙ rows_more number count index;
      last = c.draw_rows-rows.ensures.last ∙ ap (λ (n : ℕ). draws_behind n 10) last ∙ sym (behind-add (number % 65537) (10 * index) 10) ∙ ap (draws_behind (number % 65537)) ten;
    }
