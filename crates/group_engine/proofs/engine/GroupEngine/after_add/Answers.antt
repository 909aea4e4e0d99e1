use Rattle.std.proofs.Common.{◌≡◌, false, sym, ◌∙◌}
use Rattle.group_engine.specs.Grouped.{packed_of, is_named}
use Rattle.group_engine.proofs.ChangeLemmas.{unnamed_added}
use Rattle.group_engine.proofs.MaskLemmas.{mask_seen}
use Rattle.group_engine.proofs.EngineLemmas.{family_seen, order_seen}
use Rattle.group_engine.proofs.engine.GroupEngine.after_add.Goals as goal

pub after_add-requires-clause-family : goal.after_add-requires-clause-family
after_add-requires-clause-family g c = family_seen c.self.inside.pools c.self.inside.family c.as_slice.result.now c.self.invariant.lawful c.as_slice.ensures.groups

pub after_add-requires-clause-order : goal.after_add-requires-clause-order
after_add-requires-clause-order g c = order_seen c.self.inside.family c.as_slice.result.now c.self.inside.order.items c.deref.result.now c.self.invariant.ordered c.as_slice.ensures.groups c.deref.ensures.value

pub returns-then-not-names-clause-grouped : goal.returns-then-not-names-clause-grouped
returns-then-not-names-clause-grouped g c =
    let free : is_named c.args.self.now.decls c.args.pool ≡ false = sym c.names.ensures ∙ c.if-not-names.true in
    unnamed_added c.args.self.now.decls c.args.self.now.lens (packed_of c.args.pools.now) c.args.entity c.args.pool free c.requires

pub after_add-requires-clause-wanting : goal.after_add-requires-clause-wanting
after_add-requires-clause-wanting g c = mask_seen c.self.inside.family c.as_slice.result.now c.self.inside.order.items c.deref.result.now c.self.inside.masks.wanting.items c.self.inside.pools c.args.pool c.wanting_at.result _ c.self.invariant.marked.wanting c.as_slice.ensures.groups c.deref.ensures.value c.wanting_at.ensures

pub after_add-requires-clause-excluding : goal.after_add-requires-clause-excluding
after_add-requires-clause-excluding g c = mask_seen c.self.inside.family c.as_slice.result.now c.self.inside.order.items c.deref.result.now c.self.inside.masks.excluding.items c.self.inside.pools c.args.pool c.excluding_at.result _ c.self.invariant.marked.excluding c.as_slice.ensures.groups c.deref.ensures.value c.excluding_at.ensures
