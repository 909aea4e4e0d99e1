-- A document, and the script behind it played to its end.
use Rattle.std.proofs.Common.{◌≡◌, ℕ, ◌<◌, List, [], ◌++◌, length, refl, sym, ap, ◌∙◌, subst, append_assoc}
use Rattle.std.proofs.lemmas.List.{get_or-replicate}
use Rattle.std.proofs.lemmas.Option.{none-some}
use Rattle.entity_id.specs.declared.entity.Entity.{Entity}
use Rattle.entity_id.specs.Identifiers.{p20_12}
use Rattle.registry.specs.Held.{Held, unheard}
use Rattle.registry.specs.Listeners.{listeners_at}
use Rattle.world_model.specs.declared.component.Decl.{Decl}
use Rattle.world_model.specs.declared.event.EventKind.{EventKind}
use Rattle.world_model.specs.declared.event.EventKind.TheVariants.{Construct, Update, Destroy}
use Rattle.world_model.specs.declared.world.World.{World}
use Rattle.world_text.specs.declared.document.Document.{Document}
use Rattle.world_text.specs.declared.script.ScriptLine.{ScriptLine}
use Rattle.world_text.specs.Documents.{IsLawfulDocument, text}
use Rattle.world_text.specs.Formats.{version_1}
use Rattle.world_text.specs.Playing.{outcome_from, last_heard, document_after, scripted_text}
use Rattle.world_text.specs.Scripts.{IsScript}
use Rattle.world_text.proofs.ScriptLemmas.{script_keeps, after_is_lawful}
use Rattle.world_top.specs.Playing.{IsPlayed}
use Rattle.world_top.specs.Watched.{AreWatched}
use Rattle.world_top.proofs.TickLemmas.{at_tick, outcome_at_tick}

nobody : (limit : ℕ) (w : World) (packed : List (List Entity)) (kind : EventKind) (pool : ℕ) → pool < length w.decls → listeners_at (unheard limit w packed) kind pool ≡ []
nobody limit w packed Construct pool low = get_or-replicate (length w.decls) pool [] [] low
nobody limit w packed Update pool low = get_or-replicate (length w.decls) pool [] [] low
nobody limit w packed Destroy pool low = get_or-replicate (length w.decls) pool [] [] low

-- nothing is watched where nobody listens
pub unwatched : (limit : ℕ) (w : World) (packed : List (List Entity)) → AreWatched (unheard limit w packed) [] []
unwatched limit w packed = record {
  counted = refl;
  each = λ k a s at _. absurd (none-some a at);
  apart = λ i j a b at _ _ _ _. absurd (none-some a at);
  listeners = λ kind pool low. ap length (nobody limit w packed kind pool low);
  below = λ k a at. absurd (none-some a at);
  declared = λ k a at. absurd (none-some a at);
}

-- a registry of a document, packed so, to which nobody listens
abbrev pub held_of : Document → List (List Entity) → Held
held_of document packed = unheard version_1.slot_limit (at_tick 0 document.world) packed

-- the text is a script, and was played
abbrev pub WasPlayed : List Decl → List ℕ → Held → World → List ℕ → List ℕ → Type 0
WasPlayed decls script held world before after = (lines : List ScriptLine) × IsScript p20_12 decls script lines × IsPlayed held world before after lines

-- the document that the script leaves is the world of the registry at the document's tick
left_document : (document : Document) (packed : List (List Entity)) (world : World) (before after : List ℕ) (lines : List ScriptLine) → IsPlayed (held_of document packed) world before after lines → record { world = record world { tick = document.world.tick }; systems = document.systems } ≡ document_after document lines
left_document document packed world before after lines played =
    let w = document.world in
    let kept = script_keeps version_1.slot_limit w [] lines in
    let left = outcome_from version_1.slot_limit w [] lines in
    ap (λ (v : World). record { world = record v { tick = w.tick }; systems = document.systems }) (played.world_is ∙ ap (λ o. o.world) (outcome_at_tick version_1.slot_limit 0 w [] lines))
    ∙ ap (λ (tick : ℕ). record { world = record left.world { tick = tick }; systems = document.systems }) (sym kept.tick)

-- and it is lawful
pub left_is_lawful : (document : Document) (script : List ℕ) (held : Held) (world : World) (before after : List ℕ) → IsLawfulDocument document → held ≡ held_of document held.packed → WasPlayed document.world.decls script held world before after → IsLawfulDocument (record { world = record world { tick = document.world.tick }; systems = document.systems })
left_is_lawful document script held world before after lawful is played =
    let lines = played.0 in
    let from_it = subst (λ (h : Held). IsPlayed h world before after lines) is played.2 in
    subst IsLawfulDocument (sym (left_document document held.packed world before after lines from_it)) (after_is_lawful document lines lawful played.1.each)

-- what was printed, with the text of that document behind it, is what the script prints
pub printed_whole : (document : Document) (script : List ℕ) (held : Held) (world : World) (before out whole : List ℕ) → held ≡ held_of document held.packed → before ≡ [] → WasPlayed document.world.decls script held world before out → whole ≡ out ++ text (record { world = record world { tick = document.world.tick }; systems = document.systems })
    → (lines : List ScriptLine) × IsScript p20_12 document.world.decls script lines × (whole ≡ scripted_text document lines)
printed_whole document script held world before out whole is nothing was printed =
    let w = document.world in
    let lines = was.0 in
    let played : IsPlayed (held_of document held.packed) world [] out lines =
    subst (λ (b : List ℕ). IsPlayed (held_of document held.packed) world b out lines) nothing (subst (λ (h : Held). IsPlayed h world before out lines) is was.2) in
    let left = outcome_from version_1.slot_limit w [] lines in
    let first = outcome_from version_1.slot_limit (at_tick 0 w) [] lines in
    let same = outcome_at_tick version_1.slot_limit 0 w [] lines in
    let heard : last_heard world first.watches ≡ last_heard left.world left.watches =
    (λ i. last_heard (played.world_is i) first.watches) ∙ ap (λ o. last_heard o.world o.watches) same in
    let behind = text (document_after document lines) in (
      lines,
      was.1,
      printed
          ∙ (λ i. played.printed i ++ text (left_document document held.packed world [] out lines played i))
          ∙ (λ i. ((same i).printed ++ heard i) ++ behind)
          ∙ append_assoc left.printed (last_heard left.world left.watches) behind,
    )
