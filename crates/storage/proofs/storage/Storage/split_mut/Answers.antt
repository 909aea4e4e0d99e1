use Rattle.std.proofs.Common.{◌≡◌, List, length, refl, ap, ◌∙◌, arith}
use Rattle.std.specs.List.{zip}
use Rattle.entity_id.proofs.ZipLemmas.{first-zip, second-zip}
use Rattle.storage.proofs.PairLemmas.{once-zip, values_after}
use Rattle.storage.specs.Changed.{with_values}
use Rattle.storage.proofs.storage.Storage.split_mut.Goals as goal

pub returns : goal.returns
returns g c =
    let list = c.self.inside.index.list in
    let values = c.self.inside.values.items in
    let each : length values ≡ length list = c.self.invariant.one_each in
    let once = once-zip list values c.self.invariant.distinct in
    let is : zip list values ≡ c.args.self.now.pairs = ap (λ s. s.pairs) c.self.view_is in
    let n : c.self.inside.values.len ≡ length list = omega arith in
    let z = zip list values in
    let view = λ (ws : List g.row.T.Denot). values_after list values c.self.inside.index.spare c.self.inside.index.index_bound c.self.inside.values.len each n ws in (
      (refl, λ ws. view ws ∙ ap (λ s. with_values s ws) c.self.view_is),
      record { writes_back = tt; list = rw (← c.self.view_is, first-zip list values each) refl; spare = ap (λ s. s.spare) c.self.view_is; bound = ap (λ s. s.index_bound) c.self.view_is; value = rw (← c.self.view_is, second-zip list values each) c.deref_mut.ensures.value },
    )
