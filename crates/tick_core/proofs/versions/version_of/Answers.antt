use Rattle.std.proofs.Common.{unwrap_or, sym, ap, ◌∙◌, drop, arith, add-one, drop_of_length-le}
use Rattle.tick_core.specs.Layout.{at_zero}
use Rattle.tick_core.proofs.VersionLemmas.{found, found-here, found-later, version-found}
use Rattle.tick_core.proofs.versions.version_of.Goals as goal

pub returns-then-at-pool : goal.returns-then-at-pool
returns-then-at-pool c =
    let versions = c.args.versions.now in
    sym (version-found versions c.args.pool
    ∙ ap (λ o. unwrap_or o 0) (c.loop-at.invariant ∙ found-here versions c.loop-at.at-index c.args.pool (at_zero 0) (omega arith) c.if-at-pool.true))

pub loop-at-preserved : goal.loop-at-preserved
loop-at-preserved c =
    c.loop-at.invariant ∙ found-later c.args.versions.now c.loop-at.at-index c.args.pool (at_zero 0) (omega arith) c.if-at-pool.false
    ∙ ap (λ n. found (drop n c.args.versions.now) c.args.pool) (sym (add-one c.loop-at.at-index))

pub returns : goal.returns
returns c =
    let versions = c.args.versions.now in
    sym (version-found versions c.args.pool
    ∙ ap (λ o. unwrap_or o 0) (c.loop-at.invariant ∙ ap (λ rest. found rest c.args.pool) (drop_of_length-le versions (omega arith))))
