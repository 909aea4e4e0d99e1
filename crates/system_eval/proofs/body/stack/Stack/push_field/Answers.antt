use Rattle.std.proofs.Common.{◌<◌, [], ◌∷◌, length, ap, ◌∙◌, arith}
use Rattle.system_eval.specs.Stacks.{Columns, tops, no_field}
use Rattle.system_eval.proofs.StackLemmas.{tops_put, length-tops}
use Rattle.system_eval.proofs.body.stack.Stack.push_field.Goals as goal

pub returns : goal.returns
returns c =
    let s = c.self.inside in
    let low : length (tops no_field s.fields s.field_count) < 48 = omega (arith, ap (λ (it : Columns). length it.fields) c.self.view_is, c.requires) in
    let told = c.self.told in
    let within : s.field_count < length s.fields = omega (arith, length-tops no_field s.fields s.field_count, low, c.self.told) in
    ap (λ fs. record { values = tops [] s.columns s.height; pools = tops 0 s.pools s.pool_count; fields = fs }) (tops_put no_field s.fields s.field_count c.args.at within)
    ∙ ap (λ (it : Columns). record { values = it.values; pools = it.pools; fields = c.args.at ∷ it.fields }) c.self.view_is
