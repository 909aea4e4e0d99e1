use Rattle.std.proofs.Common.{ℕ, ◌<◌, List, [], ◌∷◌, length, ap, ◌∙◌, arith}
use Rattle.system_eval.specs.Stacks.{Columns, tops, no_field}
use Rattle.system_eval.proofs.StackLemmas.{tops_put, length-tops}
use Rattle.system_eval.proofs.body.stack.Stack.push_pool.Goals as goal

pub returns : goal.returns
returns c =
    let s = c.self.inside in
    let low : length (tops 0 s.pools s.pool_count) < 48 = omega (arith, ap (λ (it : Columns). length it.pools) c.self.view_is, c.requires) in
    let within : s.pool_count < length s.pools = omega (arith, length-tops 0 s.pools s.pool_count, low, c.self.told) in
    ap (λ (ps : List ℕ). record { values = tops [] s.columns s.height; pools = ps; fields = tops no_field s.fields s.field_count }) (tops_put 0 s.pools s.pool_count c.args.pool within)
    ∙ ap (λ (it : Columns). record { values = it.values; pools = c.args.pool ∷ it.pools; fields = it.fields }) c.self.view_is
