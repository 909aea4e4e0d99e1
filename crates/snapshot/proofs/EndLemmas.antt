-- The end of a snapshot: a draft at rest is its document, or the next field is the first bad one.
use Rattle.std.proofs.Common.{◌≡◌, inl, inr, ℕ, ◌<◌, ◌≤◌, true, false, List, [], ◌∷◌, ◌++◌, drop, length, refl, sym, ap, subst, ◌∙◌, arith, length-drop}
use Rattle.std.proofs.lemmas.List.{append-nil}
use Rattle.world_text.specs.declared.draft.Draft.{Draft}
use Rattle.world_text.specs.declared.format.Format.{Format}
use Rattle.world_text.specs.Formats.{version_1}
use Rattle.world_text.specs.LineKinds.{Line}
use Rattle.world_text.specs.LineKinds as line
use Rattle.world_text.specs.Lines.{text_of}
use Rattle.world_text.specs.Meaning.{world_of, pools_in}
use Rattle.world_text.specs.SystemLines.{systems_in}
use Rattle.world_text.specs.Fitting.{fits}
use Rattle.world_text.specs.Drafts.{Stands, Takes, Refuses, document_in}
use Rattle.world_text.specs.Documents.{IsDocument}
use Rattle.world_text.proofs.AddingLemmas.{and_true}
use Rattle.snapshot.specs.Fields.{bytes_of}
use Rattle.snapshot.specs.Due.{Due, may_end}
use Rattle.snapshot.specs.Due as due
use Rattle.snapshot.specs.Snapshots.{lines_of_fields, IsSnapshot, IsBadField}
use Rattle.snapshot.specs.Reading.{Reaches, IsDraft, IsAtRest}
use Rattle.snapshot.proofs.LawfulLemmas.{is_document, lines_admissible}
use Rattle.snapshot.proofs.PoolLemmas.{at_rest_bad, no_further_pool}

-- what a draft stands for is what its lines stand for
stands_for : (draft : Draft) (lines : List Line) → draft.format ≡ version_1 → Stands draft lines → document_in draft ≡ record { world = world_of version_1 lines; systems = (systems_in lines).closed }
stands_for draft lines format h = λ i. record {
  world = record {
    profile = (format i).profile;
    decls = h.decls i;
    groups = h.groups i;
    tick = h.tick i;
    slots = h.slots i;
    free = h.free i;
    pools = (h.pools ∙ ap (λ (f : Format). pools_in f.profile lines) format) i;
  };
  systems = (h.systems i).closed;
}

snapshot_due : (bytes : List ℕ) (at : ℕ) (d : Due) (old new : Draft) → may_end d ≡ true → Reaches bytes at d (IsDraft old) → drop at bytes ≡ [] → Takes old line.End new → IsSnapshot bytes (document_in new)
snapshot_due bytes at d old new may h empty takes =
    let lines = lines_of_fields h.fields in
    let ends : fits version_1 (lines_of_fields h.fields) line.End ≡ true = subst (λ (format : Format). fits format (lines_of_fields h.fields) line.End ≡ true) h.holds.format (takes.fit (lines_of_fields h.fields) h.holds.stands) in
    let same = stands_for new (lines_of_fields h.fields ++ line.End ∷ []) (takes.format ∙ h.holds.format) (takes.stands (lines_of_fields h.fields) h.holds.stands) in
    record {
      fields = h.fields;
      admissible = h.admissible;
      whole = and_true _ _ (subst (λ (k : Due). may_end k ≡ true) (sym h.due_is) may) ends;
      spelled = h.spelled ∙ ap (λ (x : List ℕ). bytes_of h.fields ++ x) empty ∙ append-nil (bytes_of h.fields);
      stands = subst (IsDocument (text_of version_1 (lines ++ line.End ∷ []))) (sym same) (is_document lines (lines_admissible h.fields h.admissible) ends);
    }

-- where nothing stands behind a draft at rest, and its document ends, the bytes are a snapshot of it
pub snapshot_ended : (bytes : List ℕ) (at : ℕ) (old new : Draft) → IsAtRest bytes at old → drop at bytes ≡ [] → Takes old line.End new → IsSnapshot bytes (document_in new)
snapshot_ended bytes at old new (inl first) empty takes = snapshot_due bytes at (due.Slots 0 0) old new refl first empty takes
snapshot_ended bytes at old new (inr later) empty takes = snapshot_due bytes at (due.Rows 0) old new refl later empty takes

-- bytes behind the last field are a bad one
pub bytes_left : (bytes : List ℕ) (at : ℕ) (draft : Draft) → IsAtRest bytes at draft → length draft.pools.items ≡ length draft.decls.items → at < length bytes → IsBadField bytes at
bytes_left bytes at draft rest all more =
    at_rest_bad bytes at draft rest (λ name count behind is e lines holds. no_further_pool draft lines name count holds all)
    (λ empty lines holds. absurd (omega (arith, more, ap length empty, length-drop at bytes)))

-- where a document may not end behind its last pool, something is missing
pub end_missing : (bytes : List ℕ) (at : ℕ) (draft : Draft) → IsAtRest bytes at draft → length draft.pools.items ≡ length draft.decls.items → Refuses draft line.End → IsBadField bytes at
end_missing bytes at draft rest all refuses =
    at_rest_bad bytes at draft rest (λ name count behind is e lines holds. no_further_pool draft lines name count holds all)
    (λ empty lines holds. subst (λ (format : Format). fits format lines line.End ≡ false) holds.format (refuses lines holds.stands))

-- nothing stands behind the last byte
pub nothing_left : (bytes : List ℕ) (at : ℕ) → length bytes ≤ at → drop at bytes ≡ []
nothing_left bytes at past = none_of (drop at bytes) (omega (arith, past, length-drop at bytes))
  where
    none_of : (xs : List ℕ) → length xs ≡ 0 → xs ≡ []
    none_of [] e = refl
    none_of (x ∷ xs) e = absurd (omega (arith, e))
