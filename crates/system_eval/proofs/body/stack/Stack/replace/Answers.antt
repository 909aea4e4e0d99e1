use Rattle.std.proofs.Common.{◌+◌, ◌-◌, ◌<◌, ℤ, List, [], length, ap, ◌∙◌, arith, slice_set}
use Rattle.row_lang.specs.Values.{replaced}
use Rattle.system_eval.specs.Stacks.{Columns, int_at, operands_at, tops, no_field}
use Rattle.system_eval.proofs.StackLemmas.{length-tops, values_replaced}
use Rattle.system_eval.proofs.body.stack.Stack.replace.Goals as goal

pub returns : goal.returns
returns c = λ lane.
    let s = c.self.inside in
    let v = c.args.column.now in
    let low : length (tops [] s.columns s.height) < 48 = omega (arith, ap (λ (it : Columns). length it.values) c.self.view_is, c.requires) in
    let within : s.height - c.args.count < length s.columns = omega (arith, length-tops [] s.columns s.height, low, c.self.told) in
    ap (λ n. operands_at (record { values = tops [] (slice_set s.columns n v) (n + 1); pools = tops 0 s.pools s.pool_count; fields = tops no_field s.fields s.field_count }) lane) c.saturating_sub-self-inside.ensures
    ∙ ap (λ (vs : List ℤ). record { values = vs; pools = tops 0 s.pools s.pool_count; fields = tops no_field s.fields s.field_count }) (values_replaced s.columns s.height c.args.count lane v within)
    ∙ ap (λ (it : Columns). replaced c.args.count (int_at v lane) (operands_at it lane)) c.self.view_is
