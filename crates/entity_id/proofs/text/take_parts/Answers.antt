use Rattle.std.proofs.Common.{arith, rules}
use Rattle.entity_id.specs.Identifiers.{HasLimits}
use Rattle.entity_id.proofs.FrontLemmas.{index_first, version_first}
use Rattle.entity_id.proofs.text.take_parts.Goals as goal

pub returns-in_err-version-clause-none : goal.returns-in_err-version-clause-none
returns-in_err-version-clause-none c = rw c.from_residual-in_err-version.ensures (λ entity rest parts.
    let limits : HasLimits c.args.profile = record { index = search rules; version = search rules } in
    let behind = index_first c.args.profile _ c.in_ok-index.index c.args.text.now c.in_ok-index.behind.now rest entity limits (omega arith) c.in_ok-index.ensures.some parts in
    c.in_err-version.ensures _ behind.1)

pub returns-in_err-version-2-clause-none : goal.returns-in_err-version-2-clause-none
returns-in_err-version-2-clause-none c = rw c.from_residual-in_err-version-2.ensures (λ entity rest parts.
    let limits : HasLimits c.args.profile = record { index = search rules; version = search rules } in
    let version = version_first c.args.profile _ c.in_ok-index.index c.args.text.now c.in_ok-index.behind.now c.in_ok-version.version.now rest entity limits (omega arith) c.in_ok-index.ensures.some c.in_ok-version.ensures parts in
    c.in_err-version-2.ensures.none entity.version rest (record { within = omega (arith, version.within); whole = version.whole; ended = version.ended }))
