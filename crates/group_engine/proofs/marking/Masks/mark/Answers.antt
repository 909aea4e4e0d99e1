use Rattle.std.proofs.Common.{◌≡◌, true, false, length, sym, ap, subst, ◌∙◌, rules}
use Rattle.group_engine.specs.Masks.{AreMasks}
use Rattle.group_engine.proofs.UseLemmas.{written_back}
use Rattle.group_engine.proofs.marking.Masks.mark.Goals as goal

pub returns : goal.returns
returns c =
    let self = c.args.self.now in
    let decls = c.args.decls.now in
    let order = c.args.order.now in
    let new = c.mark_pools.new.masks in
    let new' = c.mark_pools-2.new.masks in
    let lent : c.deref_mut.result.now ≡ self.wanting.items = search rules in
    let lent' : c.deref_mut-2.result.now ≡ self.excluding.items = search rules in
    let many : length c.deref_mut.result.now ≡ self.wanting.len = search rules in
    let many' : length c.deref_mut-2.result.now ≡ self.excluding.len = search rules in
    record {
      wanting = subst (λ l. AreMasks l decls order (length self.wanting.items) true) (sym (written_back new self.wanting.items self.wanting.len (c.mark_pools.ensures.len ∙ many)))
          (subst (λ k. AreMasks new decls order k true) (ap length lent) c.mark_pools.ensures.masks);
      excluding = subst (λ l. AreMasks l decls order (length self.wanting.items) false) (sym (written_back new' self.excluding.items self.excluding.len (c.mark_pools-2.ensures.len ∙ many')))
          (subst (λ k. AreMasks new' decls order k false) (ap length lent' ∙ c.requires.same) c.mark_pools-2.ensures.masks);
    }
