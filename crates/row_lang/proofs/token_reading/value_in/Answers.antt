use Rattle.std.proofs.Common.{◌≡◌, ℤ, sym, ap, ◌∙◌, arith}
use Rattle.std.proofs.lemmas.Int.{ints, to_z-of_z}
use mir.Val.{to_z, of_z}
use mir.Syntax.{w64}
use Rattle.row_lang.specs.declared.token.Token.TheVariants.{Number}
use Rattle.row_lang.proofs.TokenLemmas.{one_key_value, one_number_value}
use Rattle.row_lang.proofs.token_reading.value_in.Goals as goal

pub returns-in-Some-clause-once : goal.returns-in-Some-clause-once
returns-in-Some-clause-once c = one_key_value c.args.decls.now c.args.access.now c.args.kind c.args.levels c.args.word.now c.in-Some.keyword c.in-Some.ensures.some

pub returns-in-Some-read_int-clause-once : goal.returns-in-Some-read_int-clause-once
returns-in-Some-read_int-clause-once c = λ other is f w.
    let same : to_z w64 (of_z w64 c.in-Some-read_int.number) ≡ c.in-Some-read_int.number = grind (arith, ints, to_z-of_z) in
    one_number_value c.args.decls.now c.args.access.now c.args.kind c.args.levels c.args.word.now c.in-Some-read_int.number c.in-Some-read_int.ensures.some.0 c.in-Some-read_int.ensures.some.1 other is f w ∙ ap (λ (z : ℤ). Number z) (sym same)
