-- Drafts with room made for what is read next.
use Rattle.std.proofs.Common.{inl, inr, ℕ, List, ◌∙◌}
use Rattle.world_text.specs.declared.draft.Draft.{Draft}
use Rattle.world_text.specs.LineKinds.{Line}
use Rattle.world_text.specs.LineKinds as line
use Rattle.world_text.specs.Meaning.{pools_in}
use Rattle.world_text.specs.Drafts.{Takes}
use Rattle.world_text.proofs.MeaningLemmas.{pools_in-pool}
use Rattle.snapshot.specs.Due.{Due}
use Rattle.snapshot.specs.Snapshots.{lines_of_fields}
use Rattle.snapshot.specs.Reading.{Reaches, IsDraft, StandsAs, IsAtRest, EndsEmpty}

-- a draft that stands for the same lines has come as far
pub reach_as : (bytes : List ℕ) (at : ℕ) (d : Due) (old new : Draft) → StandsAs old new → Reaches bytes at d (IsDraft old) → Reaches bytes at d (IsDraft new)
reach_as bytes at d old new same h = record {
  fields = h.fields;
  admissible = h.admissible;
  starts = h.starts;
  spelled = h.spelled;
  due_is = h.due_is;
  holds = same (lines_of_fields h.fields) h.holds;
}

-- a pool that is begun has no rows
begun_empty_after : (lines : List Line) (old new : Draft) (name : List ℕ) → IsDraft old lines → Takes old (line.Pool name) new → EndsEmpty new.pools.items
begun_empty_after lines old new name is takes =
    (pools_in new.format.profile lines, (takes.stands lines is.stands).pools ∙ pools_in-pool new.format.profile lines name)

pub begun_empty : (bytes : List ℕ) (at : ℕ) (old new : Draft) (name : List ℕ) → IsAtRest bytes at old → Takes old (line.Pool name) new → EndsEmpty new.pools.items
begun_empty bytes at old new name (inl first) takes = begun_empty_after _ old new name first.holds takes
begun_empty bytes at old new name (inr later) takes = begun_empty_after _ old new name later.holds takes
