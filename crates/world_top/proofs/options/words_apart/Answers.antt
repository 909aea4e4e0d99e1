use Rattle.std.proofs.Common.{ap, arith, length, string_bytes}
use Rattle.std.proofs.lemmas.List.{length-map}
use Rattle.world_top.proofs.OptionLemmas.{apart_some, apart_upto}
use Rattle.world_top.proofs.options.words_apart.Goals as goal

pub returns-then-is_full-clause-none : goal.returns-then-is_full-clause-none
returns-then-is_full-clause-none c = λ _.
    let upto = apart_upto c.args.options.now c.loop-option.option-index c.option-item.result c.loop-option-test.true c.option-item.is in
    let counted = ap length c.loop-option.invariant in
    let same = length-map c.loop-option.words.items (λ word. word.now) in
    grind (arith, upto, counted, same, apart_some (string_bytes c.option-item.result), c.if-is_full.true, c.is_full.ensures.value, c.if-is_full.ensures.value)

pub returns-then-is_full-2-clause-none : goal.returns-then-is_full-2-clause-none
returns-then-is_full-2-clause-none c = λ _.
    let upto = apart_upto c.args.options.now c.loop-option.option-index c.option-item.result c.loop-option-test.true c.option-item.is in
    let counted = ap length c.loop-option.invariant in
    let same = length-map c.loop-option.words.items (λ word. word.now) in
    grind (arith, upto, counted, same, c.split_option.ensures, c.in-Some.is, c.as_bytes.ensures.value, c.push.ensures.len, c.if-is_full-2.true, c.if-is_full-2.ensures.value, c.is_full-in-Some.ensures.value)
