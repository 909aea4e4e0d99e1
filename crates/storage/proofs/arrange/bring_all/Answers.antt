use Rattle.std.proofs.Common.{◌≡◌, length, sym, refl, arith, rules}
use Rattle.std.proofs.lemmas.List.{length-map}
use Rattle.entity_id.specs.declared.entity.Entity.{Entity}
use Rattle.entity_id.specs.FiniteMap as entries
use Rattle.entity_id.proofs.ListLemmas.{past_end}
use Rattle.entity_id.proofs.MapChangeLemmas.{distinct_keys, once_from_keys}
use Rattle.entity_id.proofs.ArrangeLemmas.{arranged_start, arranged_by_place, arranged_end}
use Rattle.storage.proofs.arrange.bring_all.Goals as goal

pub loop-place-init : goal.loop-place-init
loop-place-init g c = record {
  arranged = arranged_start (λ (v : Entity). v.index) (entries.keys c.args.storage.now.pairs) c.args.order.now c.requires.order (distinct_keys c.args.storage.now.pairs c.requires.once);
  map = refl;
  spare = refl;
  bound = refl;
  steps = omega arith;
}

pub bring-requires : goal.bring-requires
bring-requires g c =
    let keys : length (entries.keys c.loop-place.storage.pairs) ≡ length (entries.keys c.args.storage.now.pairs) = c.loop-place.invariant.arranged.len in
    let old : length (entries.keys c.args.storage.now.pairs) ≡ length c.args.storage.now.pairs = length-map c.args.storage.now.pairs (λ pair. pair.0) in
    let new : length (entries.keys c.loop-place.storage.pairs) ≡ length c.loop-place.storage.pairs = length-map c.loop-place.storage.pairs (λ pair. pair.0) in
    omega arith

pub loop-place-preserved : goal.loop-place-preserved
loop-place-preserved g c = record {
  arranged = arranged_by_place (entries.keys c.args.storage.now.pairs) c.args.order.now (entries.keys c.loop-place.storage.pairs) (entries.keys c.bring.new.storage.pairs) c.loop-place.place c.in-Some.entity c.loop-place.invariant.arranged (sym c.in-Some.ensures) c.bring.ensures.keys;
  map = search rules;
  spare = search rules;
  bound = search rules;
  steps = omega arith;
}

pub returns-in_default-clause-keys : goal.returns-in_default-clause-keys
returns-in_default-clause-keys g c = arranged_end (λ (v : Entity). v.index) (entries.keys c.args.storage.now.pairs) c.args.order.now (entries.keys c.loop-place.storage.pairs) c.loop-place.place (past_end c.args.order.now c.loop-place.place (sym c.in_default.ensures)) c.loop-place.invariant.arranged

pub returns-in_default-clause-once : goal.returns-in_default-clause-once
returns-in_default-clause-once g c = once_from_keys c.loop-place.storage.pairs c.loop-place.invariant.arranged.once

pub returns-clause-keys : goal.returns-clause-keys
returns-clause-keys g c =
    let old : length (entries.keys c.args.storage.now.pairs) ≡ length c.args.storage.now.pairs = length-map c.args.storage.now.pairs (λ pair. pair.0) in
    arranged_end (λ (v : Entity). v.index) (entries.keys c.args.storage.now.pairs) c.args.order.now (entries.keys c.loop-place.storage.pairs) c.loop-place.place (omega (arith, c.loop-place.invariant.arranged.fits)) c.loop-place.invariant.arranged

pub returns-clause-once : goal.returns-clause-once
returns-clause-once g c = once_from_keys c.loop-place.storage.pairs c.loop-place.invariant.arranged.once
