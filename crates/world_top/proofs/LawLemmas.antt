-- What the endings of the program and the laws of documents and scripts say together.
use Rattle.std.proofs.Common.{◌≡◌, ◌⊎◌, inl, inr, ℕ, ◌<◌, ◌≤◌, Bool, true, false, List, [], length, Option, Some, IfSome, refl, sym, ap, subst, ◌∙◌, arith, ◌+◌}
use Rattle.std.proofs.lemmas.Bool.{cases_lt, false≢true}
use Rattle.std.specs.declared.string.String.{String}
use Rattle.access_graph.specs.declared.edge.Edge.{Edge}
use Rattle.access_graph.specs.Graphs.{AreEdges}
use Rattle.access_graph.proofs.EdgeLemmas.{one_list}
use Rattle.access_graph.proofs.ExistenceLemmas.{have_edges}
use Rattle.ecs_io.specs.Streams.{Rose, Grows, GrowsByFront}
use Rattle.snapshot.specs.Packing.{snapshot}
use Rattle.snapshot.proofs.CompleteLemmas.{snapshot_or_bad}
use Rattle.snapshot.proofs.UniqueLemmas.{one_document as one_unpacked, no_bad_field, one_offset}
use Rattle.world_maker.specs.Summaries.{summary_text}
use Rattle.world_maker.proofs.RowLawfulness.{made, is_made}
use Rattle.world_maker.proofs.UniqueWorlds.{one_world}
use Rattle.world_model.specs.declared.access.Access.{Access}
use Rattle.world_text.specs.declared.document.Document.{Document}
use Rattle.world_text.specs.Documents.{IsDocument, text}
use Rattle.world_text.specs.Formats.{tick_limit, version_1}
use Rattle.world_text.specs.Playing.{scripted_text}
use Rattle.world_text.proofs.CompleteLemmas.{document_or_bad, scripted_or_bad}
use Rattle.world_text.proofs.LawfulLemmas.{version_1_is_format}
use Rattle.world_text.proofs.OneScriptLemmas.{one_scripted, no_bad_scripted, one_bad_scripted}
use Rattle.world_text.proofs.UniqueLemmas.{one_document, no_bad_line, one_number}
use Rattle.world_top.specs.declared.outcome.FaultAt.{FaultAt}
use Rattle.world_top.specs.declared.outcome.FaultAt.TheVariants as place
use Rattle.world_top.specs.declared.outcome.Outcome.{Outcome}
use Rattle.world_top.specs.declared.outcome.Outcome.TheVariants as ending
use Rattle.world_top.specs.declared.verb.Verb.{Verb}
use Rattle.world_top.specs.declared.verb.Verb.TheVariants.{Snapshot, Apply, Run, Graph, Pack, Unpack, Gen}
use Rattle.world_top.specs.Endings.{input_limit, Streams, Takes, WasRead, Prints, Means, MeansFor, Ends, number_of}
use Rattle.world_top.specs.Output.{IsOutput, IsBadLineFor, IsBadOffsetFor, IsBadInput, IsPastLimit, IsRan, PassesLimit}
use Rattle.world_top.specs.Graphed.{accesses_of, graph_text}
use Rattle.world_top.specs.Ticking.{document_after_ticks}
use Rattle.world_top.specs.Words.{IsInRange, reads_input, verb_of}

-- systems have one list of edges
one_graph : (systems : List Access) (edges others : List Edge) → AreEdges systems edges → AreEdges systems others → edges ≡ others
one_graph systems edges others a b = one_list edges others a.ordered b.ordered (λ i j has. (b.each i j).1 ((a.each i j).0 has)) (λ i j has. (a.each i j).1 ((b.each i j).0 has))

pub output_is_one : (verb : Verb) (input a b : List ℕ) → IsOutput verb input a → IsOutput verb input b → a ≡ b
output_is_one Snapshot input a b p q = p.printed ∙ ap text (one_document version_1 version_1_is_format input p.document q.document p.read q.read) ∙ sym q.printed
output_is_one Apply input a b p q =
    let same = one_scripted input p.document q.document p.script q.script p.read q.read in
    p.printed ∙ (λ i. scripted_text (same.0 i) (same.1 i)) ∙ sym q.printed
output_is_one (Run ticks workers) input a b p q = p.printed ∙ ap (λ d. text (document_after_ticks ticks d)) (one_document version_1 version_1_is_format input p.document q.document p.read q.read) ∙ sym q.printed
output_is_one Graph input a b p q =
    let same = one_document version_1 version_1_is_format input p.document q.document p.read q.read in
    let edges = one_graph (accesses_of q.document.systems) p.edges q.edges (subst (λ (d : Document). AreEdges (accesses_of d.systems) p.edges) same p.fewest) q.fewest in
    p.printed ∙ ap (λ (d : Document). graph_text d.systems p.edges) same ∙ ap (graph_text q.document.systems) edges ∙ sym q.printed
output_is_one Pack input a b p q = p.printed ∙ ap snapshot (one_document version_1 version_1_is_format input p.document q.document p.read q.read) ∙ sym q.printed
output_is_one Unpack input a b p q = p.printed ∙ ap text (one_unpacked input p.document q.document p.read q.read) ∙ sym q.printed
output_is_one (Gen number count ticks) input a b p q =
    p.printed ∙ ap (λ (d : Document). summary_text (document_after_ticks ticks d).world) (one_world number count p.document q.document p.made q.made) ∙ sym q.printed

no_output_is_bad_line : (verb : Verb) (input bytes : List ℕ) (line : ℕ) → IsOutput verb input bytes → IsBadLineFor verb input line → ⊥
no_output_is_bad_line Snapshot input bytes line o bad = no_bad_line version_1 version_1_is_format input o.document line o.read bad
no_output_is_bad_line Apply input bytes line o bad = no_bad_scripted input o.document o.script line o.read bad
no_output_is_bad_line (Run ticks workers) input bytes line o bad = no_bad_line version_1 version_1_is_format input o.document line o.read bad
no_output_is_bad_line Graph input bytes line o bad = no_bad_line version_1 version_1_is_format input o.document line o.read bad
no_output_is_bad_line Pack input bytes line o bad = no_bad_line version_1 version_1_is_format input o.document line o.read bad
no_output_is_bad_line Unpack input bytes line o bad = bad
no_output_is_bad_line (Gen number count ticks) input bytes line o bad = bad

no_output_is_bad_offset : (verb : Verb) (input bytes : List ℕ) (offset : ℕ) → IsOutput verb input bytes → IsBadOffsetFor verb input offset → ⊥
no_output_is_bad_offset Snapshot input bytes offset o bad = bad
no_output_is_bad_offset Apply input bytes offset o bad = bad
no_output_is_bad_offset (Run ticks workers) input bytes offset o bad = bad
no_output_is_bad_offset Graph input bytes offset o bad = bad
no_output_is_bad_offset Pack input bytes offset o bad = bad
no_output_is_bad_offset Unpack input bytes offset o bad = no_bad_field input o.document offset o.read bad
no_output_is_bad_offset (Gen number count ticks) input bytes offset o bad = bad

pub no_output_is_bad : (verb : Verb) (input bytes : List ℕ) (at : FaultAt) → IsOutput verb input bytes → IsBadInput verb input at → ⊥
no_output_is_bad verb input bytes (place.Line line) o bad = no_output_is_bad_line verb input bytes line o bad
no_output_is_bad verb input bytes (place.Offset offset) o bad = no_output_is_bad_offset verb input bytes offset o bad

pub no_output_is_past : (verb : Verb) (input bytes : List ℕ) → IsOutput verb input bytes → IsPastLimit verb input → ⊥
no_output_is_past Snapshot input bytes o past = past
no_output_is_past Apply input bytes o past = past
no_output_is_past (Run ticks workers) input bytes o past =
    let same : o.document.world.tick ≡ past.document.world.tick = ap (λ (d : Document). d.world.tick) (one_document version_1 version_1_is_format input o.document past.document o.read past.read) in
    absurd (omega (arith, same, o.within, past.past))
no_output_is_past Graph input bytes o past = past
no_output_is_past Pack input bytes o past = past
no_output_is_past Unpack input bytes o past = past
no_output_is_past (Gen number count ticks) input bytes o past = past

pub no_bad_input_is_past : (verb : Verb) (input : List ℕ) (at : FaultAt) → IsBadInput verb input at → IsPastLimit verb input → ⊥
no_bad_input_is_past Snapshot input at bad past = past
no_bad_input_is_past Apply input at bad past = past
no_bad_input_is_past (Run ticks workers) input (place.Line line) bad past = no_bad_line version_1 version_1_is_format input past.document line past.read bad
no_bad_input_is_past (Run ticks workers) input (place.Offset offset) bad past = bad
no_bad_input_is_past Graph input at bad past = past
no_bad_input_is_past Pack input at bad past = past
no_bad_input_is_past Unpack input at bad past = past
no_bad_input_is_past (Gen number count ticks) input at bad past = past

bad_line_is_one : (verb : Verb) (input : List ℕ) (a b : ℕ) → IsBadLineFor verb input a → IsBadLineFor verb input b → a ≡ b
bad_line_is_one Snapshot input a b p q = one_number version_1 version_1_is_format input a b p q
bad_line_is_one Apply input a b p q = one_bad_scripted input a b p q
bad_line_is_one (Run ticks workers) input a b p q = one_number version_1 version_1_is_format input a b p q
bad_line_is_one Graph input a b p q = one_number version_1 version_1_is_format input a b p q
bad_line_is_one Pack input a b p q = one_number version_1 version_1_is_format input a b p q
bad_line_is_one Unpack input a b p q = absurd p
bad_line_is_one (Gen number count ticks) input a b p q = absurd p

bad_offset_is_one : (verb : Verb) (input : List ℕ) (a b : ℕ) → IsBadOffsetFor verb input a → IsBadOffsetFor verb input b → a ≡ b
bad_offset_is_one Snapshot input a b p q = absurd p
bad_offset_is_one Apply input a b p q = absurd p
bad_offset_is_one (Run ticks workers) input a b p q = absurd p
bad_offset_is_one Graph input a b p q = absurd p
bad_offset_is_one Pack input a b p q = absurd p
bad_offset_is_one Unpack input a b p q = one_offset input a b p q
bad_offset_is_one (Gen number count ticks) input a b p q = absurd p

-- a command reads lines or fields, and never both
lines_or_fields : (verb : Verb) (input : List ℕ) (line offset : ℕ) → IsBadLineFor verb input line → IsBadOffsetFor verb input offset → ⊥
lines_or_fields Snapshot input line offset p q = q
lines_or_fields Apply input line offset p q = q
lines_or_fields (Run ticks workers) input line offset p q = q
lines_or_fields Graph input line offset p q = q
lines_or_fields Pack input line offset p q = q
lines_or_fields Unpack input line offset p q = p
lines_or_fields (Gen number count ticks) input line offset p q = p

pub bad_input_is_one : (verb : Verb) (input : List ℕ) (a b : FaultAt) → IsBadInput verb input a → IsBadInput verb input b → a ≡ b
bad_input_is_one verb input (place.Line a) (place.Line b) p q = ap place.Line (bad_line_is_one verb input a b p q)
bad_input_is_one verb input (place.Line a) (place.Offset b) p q = absurd (lines_or_fields verb input a b p q)
bad_input_is_one verb input (place.Offset a) (place.Line b) p q = absurd (lines_or_fields verb input b a q p)
bad_input_is_one verb input (place.Offset a) (place.Offset b) p q = ap place.Offset (bad_offset_is_one verb input a b p q)

-- a document's tick number passes the limit in so many ticks, or not
ran_or_past : (ticks : ℕ) (input : List ℕ) (document : Document) → IsDocument input document → ((bytes : List ℕ) → IsRan ticks input bytes → ⊥) → (PassesLimit ticks input → ⊥) → ⊥
ran_or_past ticks input document read no_output not_past =
    elim (cases_lt tick_limit (document.world.tick + ticks)) [
      | inl past ↦ not_past (record { document = document; read = read; past = past })
      | inr within ↦ no_output (text (document_after_ticks ticks document)) (record { document = document; read = read; within = within; printed = refl })
    ]

pub answered : (verb : Verb) (input : List ℕ) → IsInRange verb → ((bytes : List ℕ) → IsOutput verb input bytes → ⊥) → ((at : FaultAt) → IsBadInput verb input at → ⊥) → (IsPastLimit verb input → ⊥) → ⊥
answered Snapshot input range no_output no_fault not_past =
    document_or_bad version_1 input (λ document read. no_output (text document) (record { document = document; read = read; printed = refl })) (λ line. no_fault (place.Line line))
answered Apply input range no_output no_fault not_past =
    scripted_or_bad input (λ document script read. no_output (scripted_text document script) (record { document = document; script = script; read = read; printed = refl })) (λ line. no_fault (place.Line line))
answered (Run ticks workers) input range no_output no_fault not_past =
    document_or_bad version_1 input (λ document read. ran_or_past ticks input document read no_output not_past) (λ line. no_fault (place.Line line))
answered Graph input range no_output no_fault not_past =
    document_or_bad version_1 input (λ document read. have_edges (accesses_of document.systems) (λ edges fewest.
    no_output (graph_text document.systems edges) (record { document = document; edges = edges; read = read; fewest = fewest; printed = refl }))) (λ line. no_fault (place.Line line))
answered Pack input range no_output no_fault not_past =
    document_or_bad version_1 input (λ document read. no_output (snapshot document) (record { document = document; read = read; printed = refl })) (λ line. no_fault (place.Line line))
answered Unpack input range no_output no_fault not_past =
    snapshot_or_bad input (λ document read. no_output (text document) (record { document = document; read = read; printed = refl })) (λ offset. no_fault (place.Offset offset))
answered (Gen number count ticks) input range no_output no_fault not_past =
    let document : Document = made number count range.0 in
    no_output (summary_text (document_after_ticks ticks document).world) (record { document = document; made = is_made number count range.0; printed = refl })

-- what is known of an input holds of the one that the source told
known : (holds : List ℕ → Type 0) (told : Option (List ℕ)) (input : List ℕ) → told ≡ Some input → IfSome told holds → holds input
known holds told input is h = subst (λ (o : Option (List ℕ)). IfSome o holds) is h

-- what a command read, where it reads its source
was_read : (b : Bool) (input rest : Option (List ℕ)) (holds : List ℕ → Type 0) → b ≡ true → Takes b input rest holds → WasRead input rest holds
was_read true input rest holds reads h = h
was_read false input rest holds reads h = absurd (false≢true reads)

-- what is known of what a command took holds of the input that the source told, or the command reads none
module _ (told rest : Option (List ℕ)) (input : List ℕ) (is : told ≡ Some input) where
  taken : (verb : Verb) (holds : List ℕ → Type 0) → (reads_input verb ≡ false → holds [] → holds input) → Takes (reads_input verb) told rest holds → holds input
  taken Snapshot holds same h = (known _ told input is h.1).1
  taken Apply holds same h = (known _ told input is h.1).1
  taken (Run ticks workers) holds same h = (known _ told input is h.1).1
  taken Graph holds same h = (known _ told input is h.1).1
  taken Pack holds same h = (known _ told input is h.1).1
  taken Unpack holds same h = (known _ told input is h.1).1
  taken (Gen number count ticks) holds same h = same refl h

-- the input of a command that reads none plays no part
same_output : (verb : Verb) (input bytes : List ℕ) → reads_input verb ≡ false → IsOutput verb [] bytes → IsOutput verb input bytes
same_output Snapshot input bytes none o = absurd (false≢true (sym none))
same_output Apply input bytes none o = absurd (false≢true (sym none))
same_output (Run ticks workers) input bytes none o = absurd (false≢true (sym none))
same_output Graph input bytes none o = absurd (false≢true (sym none))
same_output Pack input bytes none o = absurd (false≢true (sym none))
same_output Unpack input bytes none o = absurd (false≢true (sym none))
same_output (Gen number count ticks) input bytes none o = o

never_bad : (verb : Verb) (at : FaultAt) → reads_input verb ≡ false → IsBadInput verb [] at → ⊥
never_bad Snapshot at none bad = absurd (false≢true (sym none))
never_bad Apply at none bad = absurd (false≢true (sym none))
never_bad (Run ticks workers) at none bad = absurd (false≢true (sym none))
never_bad Graph at none bad = absurd (false≢true (sym none))
never_bad Pack at none bad = absurd (false≢true (sym none))
never_bad Unpack at none bad = absurd (false≢true (sym none))
never_bad (Gen number count ticks) (place.Line line) none bad = bad
never_bad (Gen number count ticks) (place.Offset offset) none bad = bad

never_past : (verb : Verb) → reads_input verb ≡ false → IsPastLimit verb [] → ⊥
never_past Snapshot none past = past
never_past Apply none past = past
never_past (Run ticks workers) none past = absurd (false≢true (sym none))
never_past Graph none past = past
never_past Pack none past = past
never_past Unpack none past = past
never_past (Gen number count ticks) none past = past

module _ (verb : Verb) (s : Streams) (old new : List ℕ → Type 0) (input : List ℕ) (told : s.input ≡ Some input) where
  took : (holds : List ℕ → Type 0) → (reads_input verb ≡ false → holds [] → holds input) → Takes (reads_input verb) s.input s.rest holds → holds input
  took = taken s.input s.rest input told verb

  printed_of : (by : List ℕ → Type 0) → Prints verb s by → (bytes : List ℕ) × IsOutput verb input bytes × by bytes
  printed_of by = took (λ i. (bytes : List ℕ) × IsOutput verb i bytes × by bytes) (λ none o. (o.0, same_output verb input o.0 none o.1, o.2))

  bad_of : (at : FaultAt) → Takes (reads_input verb) s.input s.rest (λ i. IsBadInput verb i at) → IsBadInput verb input at
  bad_of at = took (λ i. IsBadInput verb i at) (λ none bad. absurd (never_bad verb at none bad))

  past_of : Takes (reads_input verb) s.input s.rest (IsPastLimit verb) → IsPastLimit verb input
  past_of = took (IsPastLimit verb) (λ none past. absurd (never_past verb none past))

  -- how long what was read is
  length_of : (holds : List ℕ → Type 0) → reads_input verb ≡ true → Takes (reads_input verb) s.input s.rest holds → length input ≤ input_limit
  length_of holds reads h = (known _ s.input input told (was_read (reads_input verb) s.input s.rest holds reads h).1).0

  good_number : (bytes : List ℕ) (outcome : Outcome) → length input ≤ input_limit → IsOutput verb input bytes
      → (Rose s.reads_before s.reads_after → ⊥) → (Rose s.writes_before s.writes_after → ⊥)
      → Means verb s old new outcome → (number_of outcome ≡ 0) ⊎ (number_of outcome ≡ 7)
  good_number bytes ending.Done short o reads writes m = inl refl
  good_number bytes ending.Usage short o reads writes m = absurd m
  good_number bytes (ending.BadInput at) short o reads writes m = absurd (no_output_is_bad verb input bytes at o (bad_of at m.0))
  good_number bytes ending.ReadFault short o reads writes m = absurd (reads m.0)
  good_number bytes ending.WriteFault short o reads writes m = absurd (writes m.0)
  good_number bytes ending.TooLong short o reads writes m = let long = known (λ xs. input_limit < length xs) s.input input told m.0 in absurd (omega arith)
  good_number bytes ending.OutOfMemory short o reads writes m = inr refl
  good_number bytes ending.TickLimit short o reads writes m = absurd (no_output_is_past verb input bytes o (past_of m.0))

  bad_number : (at : FaultAt) (outcome : Outcome) → length input ≤ input_limit → IsBadInput verb input at
      → (Rose s.reads_before s.reads_after → ⊥)
      → Means verb s old new outcome → (number_of outcome ≡ 3) ⊎ (number_of outcome ≡ 7)
  bad_number at ending.Done short bad reads m = let o = printed_of (Grows old new) m in absurd (no_output_is_bad verb input o.0 at o.1 bad)
  bad_number at ending.Usage short bad reads m = absurd m
  bad_number at (ending.BadInput other) short bad reads m = inl refl
  bad_number at ending.ReadFault short bad reads m = absurd (reads m.0)
  bad_number at ending.WriteFault short bad reads m = let o = printed_of (GrowsByFront old new) m.1 in absurd (no_output_is_bad verb input o.0 at o.1 bad)
  bad_number at ending.TooLong short bad reads m = let long = known (λ xs. input_limit < length xs) s.input input told m.0 in absurd (omega arith)
  bad_number at ending.OutOfMemory short bad reads m = inr refl
  bad_number at ending.TickLimit short bad reads m = absurd (no_bad_input_is_past verb input at bad (past_of m.0))

  long_number : (outcome : Outcome) → reads_input verb ≡ true → input_limit < length input → (Rose s.reads_before s.reads_after → ⊥)
      → Means verb s old new outcome → (number_of outcome ≡ 6) ⊎ (number_of outcome ≡ 7)
  long_number ending.Done reading long reads m = let short = length_of _ reading m in absurd (omega arith)
  long_number ending.Usage reading long reads m = absurd m
  long_number (ending.BadInput other) reading long reads m = let short = length_of _ reading m.0 in absurd (omega arith)
  long_number ending.ReadFault reading long reads m = absurd (reads m.0)
  long_number ending.WriteFault reading long reads m = let short = length_of _ reading m.1 in absurd (omega arith)
  long_number ending.TooLong reading long reads m = inl refl
  long_number ending.OutOfMemory reading long reads m = inr refl
  long_number ending.TickLimit reading long reads m = let short = length_of _ reading m.0 in absurd (omega arith)

  past_number : (outcome : Outcome) → length input ≤ input_limit → IsPastLimit verb input → (Rose s.reads_before s.reads_after → ⊥)
      → Means verb s old new outcome → (number_of outcome ≡ 8) ⊎ (number_of outcome ≡ 7)
  past_number ending.Done short past reads m = let o = printed_of (Grows old new) m in absurd (no_output_is_past verb input o.0 o.1 past)
  past_number ending.Usage short past reads m = absurd m
  past_number (ending.BadInput at) short past reads m = absurd (no_bad_input_is_past verb input at (bad_of at m.0) past)
  past_number ending.ReadFault short past reads m = absurd (reads m.0)
  past_number ending.WriteFault short past reads m = let o = printed_of (GrowsByFront old new) m.1 in absurd (no_output_is_past verb input o.0 o.1 past)
  past_number ending.TooLong short past reads m = let long = known (λ xs. input_limit < length xs) s.input input told m.0 in absurd (omega arith)
  past_number ending.OutOfMemory short past reads m = inr refl
  past_number ending.TickLimit short past reads m = inl refl

  printed : (bytes : List ℕ) (outcome : Outcome) → number_of outcome ≡ 0 → IsOutput verb input bytes → Means verb s old new outcome → Grows old new bytes
  printed bytes ending.Done zero o m = let its = printed_of (Grows old new) m in subst (Grows old new) (output_is_one verb input its.0 bytes its.1 o) its.2
  printed bytes ending.Usage zero o m = absurd m
  printed bytes (ending.BadInput at) zero o m = absurd (omega (arith, zero))
  printed bytes ending.ReadFault zero o m = absurd (omega (arith, zero))
  printed bytes ending.WriteFault zero o m = absurd (omega (arith, zero))
  printed bytes ending.TooLong zero o m = absurd (omega (arith, zero))
  printed bytes ending.OutOfMemory zero o m = absurd (omega (arith, zero))
  printed bytes ending.TickLimit zero o m = absurd (omega (arith, zero))

-- what an ending means, where the words are a command
module _ {A : Type 0} (words : List (String A)) (s : Streams) (old new told_before told_after : List ℕ → Type 0) (faults_before faults_after number : ℕ) (e : Ends words s old new told_before told_after faults_before faults_after number) (verb : Verb) (is : verb_of words ≡ Some verb) where
  meaning : Means verb s old new e.outcome
  meaning = (subst (λ (v : Option Verb). MeansFor v s old new e.outcome) is e.meaning).0

  -- a choice of two numbers, for the ending's own
  chosen : (a b : ℕ) → (number_of e.outcome ≡ a) ⊎ (number_of e.outcome ≡ b) → (number ≡ a) ⊎ (number ≡ b)
  chosen a b (inl h) = inl (e.status ∙ h)
  chosen a b (inr h) = inr (e.status ∙ h)

  pub good_ending : (input bytes : List ℕ) → s.input ≡ Some input → length input ≤ input_limit → IsOutput verb input bytes
      → (Rose s.reads_before s.reads_after → ⊥) → (Rose s.writes_before s.writes_after → ⊥) → (number ≡ 0) ⊎ (number ≡ 7)
  good_ending input bytes told short o reads writes = chosen 0 7 (good_number verb s old new input told bytes e.outcome short o reads writes meaning)

  pub bad_ending : (input : List ℕ) (at : FaultAt) → s.input ≡ Some input → length input ≤ input_limit → IsBadInput verb input at
      → (Rose s.reads_before s.reads_after → ⊥) → (number ≡ 3) ⊎ (number ≡ 7)
  bad_ending input at told short bad reads = chosen 3 7 (bad_number verb s old new input told at e.outcome short bad reads meaning)

  pub long_ending : (input : List ℕ) → s.input ≡ Some input → reads_input verb ≡ true → input_limit < length input → (Rose s.reads_before s.reads_after → ⊥) → (number ≡ 6) ⊎ (number ≡ 7)
  long_ending input told reading long reads = chosen 6 7 (long_number verb s old new input told e.outcome reading long reads meaning)

  pub past_ending : (input : List ℕ) → s.input ≡ Some input → length input ≤ input_limit → IsPastLimit verb input → (Rose s.reads_before s.reads_after → ⊥) → (number ≡ 8) ⊎ (number ≡ 7)
  past_ending input told short past reads = chosen 8 7 (past_number verb s old new input told e.outcome short past reads meaning)

  pub printed_output : (input bytes : List ℕ) → number ≡ 0 → s.input ≡ Some input → IsOutput verb input bytes → Grows old new bytes
  printed_output input bytes zero told o = printed verb s old new input told bytes e.outcome (sym e.status ∙ zero) o meaning
