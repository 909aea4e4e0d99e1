use Rattle.std.proofs.Common.{◌≡◌, Some, slice_get, refl, sym, ap, ◌∙◌, arith}
use Rattle.std.proofs.lemmas.Option.{slice_get_within}
use Rattle.storage.specs.Changed.{with_value}
use Rattle.storage.proofs.PairLemmas.{value_after}
use Rattle.storage.proofs.ChangeLemmas.{are_pairs, found}
use Rattle.storage.proofs.storage.Storage.value_mut.Goals as goal

pub index_mut-requires : goal.index_mut-requires
index_mut-requires g c =
    let p = (are_pairs c.self.inside.index.list c.self.inside.values.items c.args.self.now.pairs c.self.invariant.one_each c.self.invariant.distinct (ap (λ s. s.pairs) c.self.view_is)) in
    let here : slice_get c.self.inside.index.list c.args.place ≡ Some c.args.entity = ap (λ l. slice_get l c.args.place) (sym p.keys_are) ∙ c.requires in
    omega (arith, slice_get_within c.self.inside.index.list c.args.place c.args.entity here, p.each)

pub returns : goal.returns
returns g c =
    let p = (are_pairs c.self.inside.index.list c.self.inside.values.items c.args.self.now.pairs c.self.invariant.one_each c.self.invariant.distinct (ap (λ s. s.pairs) c.self.view_is)) in
    let here : slice_get c.self.inside.index.list c.args.place ≡ Some c.args.entity = ap (λ l. slice_get l c.args.place) (sym p.keys_are) ∙ c.requires in (
      (refl, λ v. value_after c.self.inside.index.list c.self.inside.values.items c.self.inside.index.spare c.self.inside.index.index_bound c.args.place c.args.entity v c.self.invariant.distinct here ∙ ap (λ s. with_value s c.args.entity v) c.self.view_is),
      record { writes_back = tt; value = found c.self.inside.index.list c.self.inside.values.items c.args.self.now.pairs c.args.place c.args.entity c.index_mut.result.now p here c.index_mut.ensures.value },
    )
