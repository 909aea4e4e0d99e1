use Rattle.std.proofs.Common.{◌≡◌, sym, ◌∙◌, rules, tests}
use Rattle.std.specs.List.{position_from}
use Rattle.std.proofs.lemmas.Iterator.{YieldsList-from_slice}
use Rattle.std.proofs.lemmas.Iterator.Adapters.{position_from-zero}
use Rattle.std.proofs.lemmas.Iterator.Search.{position_from_yields_List}
use Rattle.registry.specs.Lending.{has_members_of}
use Rattle.registry.proofs.parts.prefixes.group_for.Goals as goal

pub returns-in_err-group : goal.returns-in_err-group
returns-in_err-group c =
    let found : c.position.result ≡ position_from (has_members_of c.args.access.now) 0 c.args.decls.now = position_from_yields_List (has_members_of c.args.access.now) _ _ c.position.result c.position.ensures.ran (YieldsList-from_slice _ c.iter.ensures.rest) (λ x b q k. search (rules, tests)) ∙ position_from-zero (has_members_of c.args.access.now) c.args.decls.now in
    c.from_residual.ensures ∙ sym c.in_err-group.was ∙ found

pub returns : goal.returns
returns c =
    let found : c.position.result ≡ position_from (has_members_of c.args.access.now) 0 c.args.decls.now = position_from_yields_List (has_members_of c.args.access.now) _ _ c.position.result c.position.ensures.ran (YieldsList-from_slice _ c.iter.ensures.rest) (λ x b q k. search (rules, tests)) ∙ position_from-zero (has_members_of c.args.access.now) c.args.decls.now in
    sym c.in_ok-group.was ∙ found
