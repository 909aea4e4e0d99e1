use Rattle.std.proofs.Common.{◌≡◌, ◌-◌, ◌++◌, true, false, take, replicate, length, sym, subst, rules}
use Rattle.group_engine.specs.Masks.{AreMasks}
use Rattle.group_engine.proofs.MaskLemmas.{places_made}
use Rattle.group_engine.proofs.marking.Masks.make_places.Goals as goal

pub returns-then-is_err-2-clause-marked : goal.returns-then-is_err-2-clause-marked
returns-then-is_err-2-clause-marked c decls order h =
    let n = c.args.pools in
    let old = c.args.self.now in
    let made : c.resize.new.self.items ≡ take n old.wanting.items ++ replicate (n - length old.wanting.items) 0 = search rules in
    let kept : c.resize-2.new.self.items ≡ old.excluding.items = search rules in
    record {
      wanting = (places_made old.wanting.items c.resize.new.self.items decls order n true h.wanting made).1;
      excluding = subst (λ l. AreMasks l decls order n false) (sym kept) h.excluding;
    }

pub returns-clause-marked : goal.returns-clause-marked
returns-clause-marked c decls order h =
    let n = c.args.pools in
    let old = c.args.self.now in
    let made : c.resize.new.self.items ≡ take n old.wanting.items ++ replicate (n - length old.wanting.items) 0 = search rules in
    let made' : c.resize-2.new.self.items ≡ take n old.excluding.items ++ replicate (n - length old.excluding.items) 0 = search rules in
    record {
      wanting = (places_made old.wanting.items c.resize.new.self.items decls order n true h.wanting made).1;
      excluding = (places_made old.excluding.items c.resize-2.new.self.items decls order n false h.excluding made').1;
    }
