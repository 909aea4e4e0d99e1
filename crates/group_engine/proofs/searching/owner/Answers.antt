use Rattle.std.proofs.Common.{◌≡◌, sym, ◌∙◌, rules, tests}
use Rattle.std.proofs.lemmas.Iterator.{YieldsList-from_slice}
use Rattle.std.proofs.lemmas.Iterator.Adapters.{position_from-zero}
use Rattle.std.proofs.lemmas.Iterator.Search.{position_from_yields_List}
use Rattle.world_model.specs.Groups.{has_pool}
use Rattle.group_engine.specs.Engine.{owner_of}
use Rattle.group_engine.proofs.searching.owner.Goals as goal

pub returns-in_err-group : goal.returns-in_err-group
returns-in_err-group c =
    let found : c.position.result ≡ owner_of c.args.decls.now c.args.pool = position_from_yields_List (λ decl. has_pool decl.own c.args.pool) _ _ c.position.result c.position.ensures.ran (YieldsList-from_slice _ c.iter.ensures.rest) (λ x b q k. search (rules, tests)) ∙ position_from-zero (λ decl. has_pool decl.own c.args.pool) c.args.decls.now in
    c.from_residual.ensures ∙ sym c.in_err-group.was ∙ found

pub returns : goal.returns
returns c =
    let found : c.position.result ≡ owner_of c.args.decls.now c.args.pool = position_from_yields_List (λ decl. has_pool decl.own c.args.pool) _ _ c.position.result c.position.ensures.ran (YieldsList-from_slice _ c.iter.ensures.rest) (λ x b q k. search (rules, tests)) ∙ position_from-zero (λ decl. has_pool decl.own c.args.pool) c.args.decls.now in
    sym c.in_ok-group.was ∙ found
