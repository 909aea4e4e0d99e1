use Rattle.std.proofs.Common.{◌≡◌, sym, ◌∙◌, rules, tests}
use Rattle.std.proofs.lemmas.Iterator.{YieldsList-from_slice}
use Rattle.std.proofs.lemmas.Iterator.Adapters.{position_from-zero}
use Rattle.std.proofs.lemmas.Iterator.Search.{position_from_yields_List}
use Rattle.world_model.specs.Components.{has_name}
use Rattle.world_model.specs.Tokens.{component_named}
use Rattle.world_model.proofs.tokens.first_named.Goals as goal

pub returns-in_err-pool-clause-first : goal.returns-in_err-pool-clause-first
returns-in_err-pool-clause-first c =
    let found : c.position.result ≡ component_named c.args.decls.now c.args.token.now = position_from_yields_List (has_name c.args.token.now) _ _ c.position.result c.position.ensures.ran (YieldsList-from_slice _ c.iter.ensures.rest) (λ x b q k. search (rules, tests)) ∙ position_from-zero (has_name c.args.token.now) c.args.decls.now in
    c.from_residual.ensures ∙ sym c.in_err-pool.was ∙ found

pub returns-clause-first : goal.returns-clause-first
returns-clause-first c =
    let found : c.position.result ≡ component_named c.args.decls.now c.args.token.now = position_from_yields_List (has_name c.args.token.now) _ _ c.position.result c.position.ensures.ran (YieldsList-from_slice _ c.iter.ensures.rest) (λ x b q k. search (rules, tests)) ∙ position_from-zero (has_name c.args.token.now) c.args.decls.now in
    sym c.in_ok-pool.was ∙ found
