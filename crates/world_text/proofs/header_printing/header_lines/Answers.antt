use Rattle.std.proofs.Common.{◌≡◌, ◌++◌, List, ℕ, ap, ◌∙◌}
use Rattle.std.proofs.lemmas.Result.{IfOk-weaker}
use Rattle.world_text.specs.Documents.{header_of}
use Rattle.world_text.specs.Formats.{version_1}
use Rattle.world_text.specs.Lines.{text_of}
use Rattle.world_text.proofs.HeaderTextLemmas.{header_split}
use Rattle.world_text.proofs.header_printing.header_lines.Goals as goal

pub returns : goal.returns
returns c =
    let text : c.deref.result.now ≡ text_of version_1 (header_of c.args.document.now) = c.deref.ensures.value ∙ c.in_ok-push_header.ensures.ok ∙ ap (λ (t : List ℕ). t ++ text_of version_1 (header_of c.args.document.now)) c.new-text.ensures.items in
    IfOk-weaker c.split_lines.result _ _ (λ lines are. header_split c.args.document.now c.deref.result.now lines.items c.requires text are) c.split_lines.ensures
