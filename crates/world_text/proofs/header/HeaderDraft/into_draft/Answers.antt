use Rattle.std.proofs.Common.{◌∙◌}
use Rattle.world_text.proofs.HeaderLemmas.{stands_behind}
use Rattle.world_text.proofs.header.HeaderDraft.into_draft.Goals as goal

pub returns-clause-stands : goal.returns-clause-stands
returns-clause-stands c = λ lines e. stands_behind c.self.inside.draft lines c.self.invariant (c.self.view_is ∙ e)
