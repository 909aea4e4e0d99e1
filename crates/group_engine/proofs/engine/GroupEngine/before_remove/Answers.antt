use Rattle.std.proofs.Common.{◌≡◌, false, sym, ◌∙◌}
use Rattle.group_engine.specs.Grouped.{packed_of, is_named}
use Rattle.group_engine.proofs.ChangeLemmas.{unnamed_removed}
use Rattle.group_engine.proofs.MaskLemmas.{mask_seen}
use Rattle.group_engine.proofs.EngineLemmas.{family_seen, order_seen}
use Rattle.group_engine.proofs.engine.GroupEngine.before_remove.Goals as goal

pub before_remove-requires-clause-family : goal.before_remove-requires-clause-family
before_remove-requires-clause-family g c = family_seen c.self.inside.pools c.self.inside.family c.as_slice.result.now c.self.invariant.lawful c.as_slice.ensures.groups

pub before_remove-requires-clause-order : goal.before_remove-requires-clause-order
before_remove-requires-clause-order g c = order_seen c.self.inside.family c.as_slice.result.now c.self.inside.order.items c.deref.result.now c.self.invariant.ordered c.as_slice.ensures.groups c.deref.ensures.value

pub returns-then-not-names-clause-grouped : goal.returns-then-not-names-clause-grouped
returns-then-not-names-clause-grouped g c =
    let free : is_named c.args.self.now.decls c.args.pool ≡ false = sym c.names.ensures ∙ c.if-not-names.true in
    unnamed_removed c.args.self.now.decls c.args.self.now.lens (packed_of c.args.pools.now) c.args.entity c.args.pool free c.requires.here c.requires.grouped

pub before_remove-requires-clause-wanting : goal.before_remove-requires-clause-wanting
before_remove-requires-clause-wanting g c = mask_seen c.self.inside.family c.as_slice.result.now c.self.inside.order.items c.deref.result.now c.self.inside.masks.wanting.items c.self.inside.pools c.args.pool c.wanting_at.result _ c.self.invariant.marked.wanting c.as_slice.ensures.groups c.deref.ensures.value c.wanting_at.ensures

pub before_remove-requires-clause-excluding : goal.before_remove-requires-clause-excluding
before_remove-requires-clause-excluding g c = mask_seen c.self.inside.family c.as_slice.result.now c.self.inside.order.items c.deref.result.now c.self.inside.masks.excluding.items c.self.inside.pools c.args.pool c.excluding_at.result _ c.self.invariant.marked.excluding c.as_slice.ensures.groups c.deref.ensures.value c.excluding_at.ensures
