-- The texts of refusals.
use Rattle.std.specs.Prelude.{ℕ, List, codes}
use Rattle.ecs_io.specs.declared.refused.ReadRefused.{ReadRefused}
use Rattle.ecs_io.specs.declared.refused.ReadRefused.TheVariants.{ReadFailed, TooLong, OutOfMemory}

-- the text that names a refusal
abbrev pub refusal_text : ReadRefused → List ℕ
refusal_text ReadFailed = codes "a read failed"
refusal_text TooLong = codes "the input is too long"
refusal_text OutOfMemory = codes "out of memory"
