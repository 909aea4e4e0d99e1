use Rattle.world_text.specs.Formats.{version_1}
use Rattle.world_text.proofs.LawfulLemmas.{version_1_is_format}
use Rattle.world_text.proofs.OneScriptLemmas.{one_front, no_bad_front}
use Rattle.world_text.proofs.UniqueLemmas.{one_number}
use Rattle.world_text.proofs.laws.one_front.Goals as goal

pub returns : goal.returns
returns c = record {
  document = λ bytes a b m n x y p q. (one_front version_1 bytes a b m n x y version_1_is_format p q).0;
  count = λ bytes a b m n x y p q. (one_front version_1 bytes a b m n x y version_1_is_format p q).1;
  rest = λ bytes a b m n x y p q. (one_front version_1 bytes a b m n x y version_1_is_format p q).2;
  none = λ bytes a m number x p q. no_bad_front version_1 bytes a m number x version_1_is_format p q;
  one = λ bytes a b p q. one_number version_1 version_1_is_format bytes a b p.bad q.bad;
}
