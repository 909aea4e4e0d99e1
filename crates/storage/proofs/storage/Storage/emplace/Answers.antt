use Rattle.std.proofs.Common.{◌≡◌, ◌+◌, false, [], ◌∷◌, ◌++◌, length, sym, refl, ap, ◌∙◌, arith, rules}
use Rattle.std.specs.List.{zip}
use Rattle.std.proofs.lemmas.Bool.{both_ways}
use Rattle.std.proofs.lemmas.Grind.{common_steps}
use Rattle.entity_id.specs.FiniteMap as entries
use Rattle.sparse_set.specs.PackedSets as packed
use Rattle.storage.proofs.ChangeLemmas.{are_pairs, Emplaced, emplaced}
use Rattle.storage.proofs.storage.Storage.emplace.Given.{Over}
use Rattle.storage.proofs.storage.Storage.emplace.Goals as goal

-- the pair is at the end
all : (g : Over) (c : goal.After-push-2 g) → Emplaced c.args.self.now.pairs (zip c.push.new.self.list c.push-2.new.self.items) c.args.entity c.args.value
all g c =
    let values : c.push-2.new.self.items ≡ c.self.inside.values.items ++ c.args.value ∷ [] = search rules in
    emplaced c.self.inside.index.list c.push.new.self.list c.self.inside.values.items c.push-2.new.self.items c.args.self.now.pairs c.args.entity c.args.value (are_pairs c.self.inside.index.list c.self.inside.values.items c.args.self.now.pairs c.self.invariant.one_each c.self.invariant.distinct (ap (λ s. s.pairs) c.self.view_is)) c.in_default.ensures.absent c.in_default.ensures.ok values

pub invariant_of-self-2 : goal.invariant_of-self-2
invariant_of-self-2 g c =
    let len : length c.push-2.new.self.items ≡ length c.self.inside.values.items + 1 = search (rules, common_steps) in
    let keys : length c.push.new.self.list ≡ length c.self.inside.index.list + 1 = search (rules, common_steps) in
    record { one_each = omega arith; room = omega (arith, c.in_default.ensures.spare); distinct = c.push.ensures.distinct }

pub returns-clause-ok : goal.returns-clause-ok
returns-clause-ok g c = (all g c).pairs

pub returns-clause-keys : goal.returns-clause-keys
returns-clause-keys g c = (all g c).keys_are

pub returns-clause-map : goal.returns-clause-map
returns-clause-map g c = (all g c).map

pub returns-clause-absent : goal.returns-clause-absent
returns-clause-absent g c =
    let p = (are_pairs c.self.inside.index.list c.self.inside.values.items c.args.self.now.pairs c.self.invariant.one_each c.self.invariant.distinct (ap (λ s. s.pairs) c.self.view_is)) in
    p.index c.args.entity.index ∙ c.in_default.ensures.absent

pub returns-clause-present : goal.returns-clause-present
returns-clause-present g c = (λ h. absurd cc, λ h. absurd (both_ways (entries.has_index c.args.self.now.pairs c.args.entity.index) (returns-clause-absent g c) h))

pub returns-in-Err-clause-present : goal.returns-in-Err-clause-present
returns-in-Err-clause-present g c =
    let p = (are_pairs c.self.inside.index.list c.self.inside.values.items c.args.self.now.pairs c.self.invariant.one_each c.self.invariant.distinct (ap (λ s. s.pairs) c.self.view_is)) in
    let same : entries.has_index c.args.self.now.pairs c.args.entity.index ≡ packed.has_index c.self.inside.index.list c.args.entity.index = p.index c.args.entity.index in
    (λ h. same ∙ c.in-Err.ensures.present.0 h, λ h. c.in-Err.ensures.present.1 (sym same ∙ h))

pub returns-then-has_index-clause-present : goal.returns-then-has_index-clause-present
returns-then-has_index-clause-present g c =
    let p = (are_pairs c.self.inside.index.list c.self.inside.values.items c.args.self.now.pairs c.self.invariant.one_each c.self.invariant.distinct (ap (λ s. s.pairs) c.self.view_is)) in
    (λ h. p.index c.args.entity.index ∙ sym c.has_index.ensures ∙ c.if-has_index.true, λ h. refl)

pub returns-then-is_err-clause-present : goal.returns-then-is_err-clause-present
returns-then-is_err-clause-present g c =
    let p = (are_pairs c.self.inside.index.list c.self.inside.values.items c.args.self.now.pairs c.self.invariant.one_each c.self.invariant.distinct (ap (λ s. s.pairs) c.self.view_is)) in
    let fresh : entries.has_index c.args.self.now.pairs c.args.entity.index ≡ false = p.index c.args.entity.index ∙ sym c.has_index.ensures ∙ c.if-has_index.false in
    (λ h. absurd cc, λ h. absurd (both_ways (entries.has_index c.args.self.now.pairs c.args.entity.index) fresh h))
