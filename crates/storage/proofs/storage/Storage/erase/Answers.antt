use Rattle.std.proofs.Common.{◌≡◌, length, IfSome, subst, sym, ap, ◌∙◌, arith}
use Rattle.std.specs.List.{zip}
use Rattle.std.proofs.lemmas.Option.{slice_get_within}
use Rattle.entity_id.specs.FiniteMap as entries
use Rattle.entity_id.specs.PackedLists.{swap_popped}
use Rattle.entity_id.proofs.PackedListLemmas.{place_here}
use Rattle.storage.proofs.PairLemmas.{popped}
use Rattle.storage.proofs.ChangeLemmas.{are_pairs, Erased, erased, IsUnheld, unheld}
use Rattle.storage.proofs.storage.Storage.erase.Given.{Over}
use Rattle.storage.proofs.storage.Storage.erase.Goals as goal

-- the identifier isn't there
gone : (g : Over) (c : goal.In_default g) → IsUnheld c.args.self.now.pairs c.args.entity
gone g c = unheld c.self.inside.index.list c.self.inside.values.items c.args.self.now.pairs c.args.entity (are_pairs c.self.inside.index.list c.self.inside.values.items c.args.self.now.pairs c.self.invariant.one_each c.self.invariant.distinct (ap (λ s. s.pairs) c.self.view_is)) (sym c.in_default.ensures.place)

pub returns-in_default-clause-value : goal.returns-in_default-clause-value
returns-in_default-clause-value g c = sym (gone g c).value

pub returns-in_default-clause-pairs : goal.returns-in_default-clause-pairs
returns-in_default-clause-pairs g c = subst (λ o. IfSome o (λ place. zip c.swap_pop.new.self.list c.self.inside.values.items ≡ swap_popped c.args.self.now.pairs place)) (sym (gone g c).place) tt

pub returns-in_default-clause-keys : goal.returns-in_default-clause-keys
returns-in_default-clause-keys g c = subst (λ o. IfSome o (λ place. entries.keys (zip c.swap_pop.new.self.list c.self.inside.values.items) ≡ swap_popped (entries.keys c.args.self.now.pairs) place)) (sym (gone g c).place) tt

pub returns-in_default-clause-map : goal.returns-in_default-clause-map
returns-in_default-clause-map g c = ap (λ v. entries.map_of (zip v.list c.self.inside.values.items)) c.in_default.ensures.err ∙ ap (λ s. entries.map_of s.pairs) c.self.view_is ∙ sym (gone g c).map

pub returns-in_default-clause-held : goal.returns-in_default-clause-held
returns-in_default-clause-held g c = (gone g c).held

pub swap_remove-requires : goal.swap_remove-requires
swap_remove-requires g c =
    let within = slice_get_within c.self.inside.index.list c.in-Ok.place c.args.entity (place_here c.self.inside.index.list c.args.entity c.in-Ok.place (sym c.in-Ok.ensures.place)) in
    omega (arith, c.self.invariant.one_each)

pub invariant_of-self-2 : goal.invariant_of-self-2
invariant_of-self-2 g c =
    let all = popped c.self.inside.index.list c.self.inside.values.items c.args.entity c.in-Ok.place c.swap_remove.result c.self.invariant.one_each c.self.invariant.distinct (sym c.in-Ok.ensures.place) c.swap_remove.ensures.value in
    let one : length c.swap_remove.new.self.items ≡ length c.swap_pop.new.self.list = ap length c.swap_remove.ensures.items ∙ all.one_each ∙ sym (ap length c.in-Ok.ensures.ok) in
    record { one_each = one; room = omega (arith, c.in-Ok.ensures.spare, c.self.invariant.room); distinct = c.swap_pop.ensures.distinct }

-- the last pair takes its place
all : (g : Over) (c : goal.After-swap_remove g) → Erased c.args.self.now.pairs (zip c.swap_pop.new.self.list c.swap_remove.new.self.items) c.args.entity c.swap_remove.result
all g c = erased c.self.inside.index.list c.swap_pop.new.self.list c.self.inside.values.items c.swap_remove.new.self.items c.args.self.now.pairs c.args.entity c.in-Ok.place c.swap_remove.result (are_pairs c.self.inside.index.list c.self.inside.values.items c.args.self.now.pairs c.self.invariant.one_each c.self.invariant.distinct (ap (λ s. s.pairs) c.self.view_is)) (sym c.in-Ok.ensures.place) c.swap_remove.ensures.value c.in-Ok.ensures.ok c.swap_remove.ensures.items

pub returns-clause-value : goal.returns-clause-value
returns-clause-value g c = sym (all g c).value

pub returns-clause-pairs : goal.returns-clause-pairs
returns-clause-pairs g c = (all g c).pairs

pub returns-clause-keys : goal.returns-clause-keys
returns-clause-keys g c = (all g c).keys_are

pub returns-clause-map : goal.returns-clause-map
returns-clause-map g c = (all g c).map

pub returns-clause-held : goal.returns-clause-held
returns-clause-held g c = (all g c).held

pub returns-clause-len : goal.returns-clause-len
returns-clause-len g c = (all g c).len
