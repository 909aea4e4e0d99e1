use Rattle.std.proofs.Common.{◌≡◌, ◌++◌, ◌∷◌, [], arith}
use Rattle.world_text.specs.declared.script.ScriptLine.TheVariants.{Run}
use Rattle.world_text.specs.Formats.{version_1}
use Rattle.world_text.proofs.OneLineLemmas.{one_line}
use Rattle.world_text.proofs.script_laws.one_command.Goals as goal

pub returns : goal.returns
returns c = λ decls line a b each p q.
    let same : Run a ≡ Run b = (one_line version_1.profile decls (line ++ 10 ∷ []) [] [] (Run a) (Run b) (record { index = omega arith; version = omega arith }) p q).1 each in
    cc
