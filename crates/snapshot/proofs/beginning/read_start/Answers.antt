use Rattle.std.proofs.Common.{◌≡◌, ◌<◌, ◌^◌, codes, true, false, eqb, Some, sym, ◌∙◌, rules, arith}
use Rattle.std.specs.Option.{IfSome, option_eq}
use Rattle.std.proofs.lemmas.Bool.{true≢false, not-true, not-false}
use Rattle.std.proofs.lemmas.Bool.Decides.{Decides-eqb}
use Rattle.std.proofs.lemmas.Slice.Eq.{starts_is}
use Rattle.snapshot.specs.Fields.{u32_bytes}
use Rattle.snapshot.proofs.PlaceLemmas.{too_short, the_u32}
use Rattle.snapshot.proofs.StartLemmas.{start_more, mark_more, mark_missing, no_version, version_missing, count_more, count_missing}
use Rattle.snapshot.proofs.beginning.read_start.Goals as goal

pub returns-then-not-starts_with-clause-cause : goal.returns-then-not-starts_with-clause-cause
returns-then-not-starts_with-clause-cause c =
    let marked = starts_is Decides-eqb c.args.bytes.now (codes "WORLDSNP") c.starts_with.result c.starts_with.ensures.value in
    mark_missing c.args.bytes.now (λ more e. true≢false (sym (marked.1 more e) ∙ c.if-not-starts_with.true))

pub returns-then-ne-clause-cause : goal.returns-then-ne-clause-cause
returns-then-ne-clause-cause c =
    let bytes = c.args.bytes.now in
    let marked = starts_is Decides-eqb c.args.bytes.now (codes "WORLDSNP") c.starts_with.result c.starts_with.ensures.value in
    let small : IfSome c.u32_at.result (λ n. n < 2 ^ 32) = search rules in
    let other : option_eq eqb c.u32_at.result (Some 1) ≡ false = not-true _ (sym c.ne.ensures ∙ c.if-ne.true) in
    version_missing bytes (mark_more bytes (marked.0 c.if-not-starts_with.false)) (no_version bytes c.u32_at.result c.u32_at.ensures.some c.u32_at.ensures.none small other)

pub returns-in-Some-clause-ok : goal.returns-in-Some-clause-ok
returns-in-Some-clause-ok c =
    let bytes = c.args.bytes.now in
    let same : option_eq eqb c.u32_at.result (Some 1) ≡ true = not-false _ (sym c.ne.ensures ∙ c.if-ne.false) in
    let start = start_more c.args.bytes.now c.starts_with.result c.u32_at.result c.starts_with.ensures.value c.if-not-starts_with.false c.u32_at.ensures.some same in
    count_more bytes c.in-Some.count start c.in-Some.ensures.some.spelled c.if-count-le-HEADER_LIMIT.true

pub returns-in_default-clause-cause : goal.returns-in_default-clause-cause
returns-in_default-clause-cause c =
    let bytes = c.args.bytes.now in
    let same : option_eq eqb c.u32_at.result (Some 1) ≡ true = not-false _ (sym c.ne.ensures ∙ c.if-ne.false) in
    let start = start_more c.args.bytes.now c.starts_with.result c.u32_at.result c.starts_with.ensures.value c.if-not-starts_with.false c.u32_at.ensures.some same in
    count_missing bytes start (λ count more few e.
    let found = the_u32 bytes 12 c.in-Some.count count more c.in-Some.ensures.some (omega arith) (omega arith) e in
    omega (arith, found.0, few, c.if-count-le-HEADER_LIMIT.false))

pub returns-in_default-2-clause-cause : goal.returns-in_default-2-clause-cause
returns-in_default-2-clause-cause c =
    let bytes = c.args.bytes.now in
    let same : option_eq eqb c.u32_at.result (Some 1) ≡ true = not-false _ (sym c.ne.ensures ∙ c.if-ne.false) in
    let start = start_more c.args.bytes.now c.starts_with.result c.u32_at.result c.starts_with.ensures.value c.if-not-starts_with.false c.u32_at.ensures.some same in
    count_missing bytes start (λ count more few e. too_short 4 12 bytes (u32_bytes count) more c.in_default.ensures.none (omega arith) (omega arith) e)
