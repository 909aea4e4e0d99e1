-- How far a script was played.
use Rattle.std.proofs.Common.{◌≡◌, inr, refl, sym, ap, subst, ◌∙◌, ℕ, ◌<◌, List, [], ◌∷◌, ◌++◌, length, slice_get, slice_set, Some, None, true, false, if◌then◌else◌, arith, nat_lt}
use Rattle.entity_id.specs.Identifiers.{p20_12}
use Rattle.world_text.specs.declared.document.Document.{Document}
use Rattle.world_text.specs.declared.fault.TextRefused.{TextRefused}
use Rattle.world_text.specs.declared.fault.TextRefused.TheVariants.{BadLine, OutOfMemory}
use Rattle.world_text.specs.Documents.{IsFrontOf}
use Rattle.world_text.specs.Formats.{version_1}
use Rattle.world_text.specs.Refusals.{IsScriptCause}
use Rattle.std.specs.Prelude.{count_by}
use Rattle.std.proofs.lemmas.Bool.{lt-ltb, le-ltb}
use Rattle.std.proofs.lemmas.Option.{slice_get_within}
use Rattle.entity_id.specs.declared.entity.Entity.{Entity}
use Rattle.registry.specs.Held.{Held, Does, reply_to}
use Rattle.registry.specs.Listeners.{listeners_at}
use Rattle.signal_sink.specs.Hearings.{listener_limit}
use Rattle.world_model.specs.declared.command.Command.{Command}
use Rattle.world_model.specs.declared.command.Reply.{Reply}
use Rattle.world_model.specs.declared.component.Decl.{Decl}
use Rattle.world_model.specs.declared.event.EventKind.{EventKind}
use Rattle.world_model.specs.declared.refusal.Refusal.TheVariants as refusal
use Rattle.world_model.specs.Steps.{step}
use Rattle.world_model.proofs.StepLemmas.{step_same}
use Rattle.world_text.specs.declared.script.ScriptLine.TheVariants.{Run, Watch as WatchLine, Unwatch as UnwatchLine}
use Rattle.world_text.specs.Playing.{Watching, ScriptOutcome, line_outcome, new_watch, ended, is_watch_of, watch_limit, watch_lines, unwatch_found, unwatch_outcome}
use Rattle.world_text.specs.Replies.{reply_text, refusal_text, watched_text, unwatched_text, heard_text}
use Rattle.world_top.specs.declared.watching.Watch.{Watch}
use Rattle.world_top.specs.Watched.{AreWatched}
use Rattle.world_top.specs.Playing.{IsAt, Plays}
use Rattle.world_top.proofs.ConnectLemmas.{Connects, connected}
use Rattle.world_top.proofs.HearingLemmas.{stepped}
use Rattle.world_top.proofs.DisconnectLemmas.{item_at}
use Rattle.world_top.specs.declared.verb.Verb.TheVariants.{Apply}
use Rattle.world_top.specs.Output.{IsInputCause}
use Rattle.world_top.specs.Playing.{behind_lines}

-- what is wrong with the script behind a document is wrong with the input
pub cause_behind : (input : List ℕ) (document : Document) (lines : ℕ) (script : List ℕ) (cause : TextRefused) → IsFrontOf version_1 input document lines script → IsScriptCause p20_12 document.world.decls script cause → IsInputCause Apply input (behind_lines lines cause)
cause_behind input document lines script (BadLine line) front bad = inr (record { document = document; count = lines; rest = script; front = front; number_there = line; bad = bad; counted = refl })
cause_behind input document lines script OutOfMemory front bad = tt

-- a command was carried out, and its reply was printed
pub ran : (old new : Held) (command : Command) (reply : Reply) (decls : List Decl) (before after : List ℕ) (watches : List Watch) → old.world.decls ≡ decls → old.world.profile ≡ p20_12 → Does old new command → reply ≡ reply_to old command → after ≡ before ++ (reply_text p20_12 decls command reply ++ 10 ∷ []) → Plays old new watches watches before after (Run command)
ran old new command reply decls before after watches same profile does is_reply printed its h =
    let w = old.world in
    record {
      limit_is = does.limit;
      world_is = does.world;
      watched = stepped old new (step old.limit w command).world (step old.limit w command).events watches its h does (step_same old.limit w command).decls;
      printed = printed ∙ (λ i. before ++ (reply_text (sym profile i) (sym same i) command (is_reply i) ++ 10 ∷ []));
    }

-- a watch began, and its number was printed
pub began : (old new : Held) (watches : List Watch) (kind : EventKind) (pool number : ℕ) (before after : List ℕ) → pool < length old.world.decls → Connects old new kind pool number → length (listeners_at old kind pool) < listener_limit → after ≡ before ++ (watched_text (length watches) ++ 10 ∷ []) → Plays old new watches (watches ++ record { kind = kind; pool = pool; number = number; stands = true } ∷ []) before after (WatchLine kind pool)
began old new watches kind pool number before after low c room printed its h =
    let few : nat_lt (count_by (is_watch_of kind pool) its) watch_limit ≡ true = lt-ltb _ _ (omega (arith, room, h.listeners kind pool low)) in
    let outcome : ScriptOutcome = record { printed = watched_text (length its) ++ 10 ∷ []; world = old.world; watches = its ++ new_watch kind pool ∷ [] } in
    let is : outcome ≡ line_outcome old.limit old.world its (WatchLine kind pool) =
    ap (λ b. if b then outcome else record { printed = refusal_text refusal.TooMany ++ 10 ∷ []; world = old.world; watches = its }) (sym few) in
    subst (IsAt old.limit new (watches ++ record { kind = kind; pool = pool; number = number; stands = true } ∷ []) before after) is (record {
      limit_is = c.rewired.limit;
      world_is = c.rewired.world;
      watched = connected old new watches its kind pool number h c low;
      printed = printed ∙ ap (λ n. before ++ (watched_text n ++ 10 ∷ [])) h.counted;
    })

-- too many watches began before
pub too_many : (old : Held) (watches : List Watch) (kind : EventKind) (pool : ℕ) (before after : List ℕ) → pool < length old.world.decls → length (listeners_at old kind pool) ≡ listener_limit → after ≡ before ++ (refusal_text refusal.TooMany ++ 10 ∷ []) → Plays old old watches watches before after (WatchLine kind pool)
too_many old watches kind pool before after low full printed its h =
    let many : nat_lt (count_by (is_watch_of kind pool) its) watch_limit ≡ false = le-ltb _ _ (omega (arith, full, h.listeners kind pool low)) in
    let outcome : ScriptOutcome = record { printed = refusal_text refusal.TooMany ++ 10 ∷ []; world = old.world; watches = its } in
    let is : outcome ≡ line_outcome old.limit old.world its (WatchLine kind pool) =
    ap (λ b. if b then record { printed = watched_text (length its) ++ 10 ∷ []; world = old.world; watches = its ++ new_watch kind pool ∷ [] } else outcome) (sym many) in
    subst (IsAt old.limit old watches before after) is (record { limit_is = refl; world_is = refl; watched = h; printed = printed })

-- no watch of this number stands
pub unknown : (old : Held) (watches : List Watch) (number : ℕ) (before after : List ℕ) → ((w : Watch) → slice_get watches number ≡ Some w → w.stands ≡ false) → after ≡ before ++ (refusal_text refusal.Unknown ++ 10 ∷ []) → Plays old old watches watches before after (UnwatchLine number)
unknown old watches number before after none printed its h =
    let outcome : ScriptOutcome = record { printed = refusal_text refusal.Unknown ++ 10 ∷ []; world = old.world; watches = its } in
    let is : IsAt old.limit old watches before after outcome = record { limit_is = refl; world_is = refl; watched = h; printed = printed } in
    elim (slice_get its number) as (λ o. slice_get its number ≡ o → IsAt old.limit old watches before after (unwatch_outcome old.world its number o)) [
      | None ↦ λ _. is
      | Some s ↦ λ at.
          let w = item_at watches number (omega (arith, h.counted, slice_get_within its number s at)) in
          let over : s.stands ≡ false = sym (h.each number w.item s w.at at).stands ∙ none w.item w.at in
          let same : outcome ≡ unwatch_found old.world its number s =
          ap (λ b. if b then record { printed = (unwatched_text (length s.heard) ++ 10 ∷ []) ++ watch_lines old.world.profile old.world.decls number s; world = old.world; watches = slice_set its number (ended s) } else outcome) (sym over) in
          subst (IsAt old.limit old watches before after) same is
    ] refl

-- a watch ended, and what it heard was printed
pub unwatched : (old new : Held) (watches left : List Watch) (number : ℕ) (w : Watch) (decls : List Decl) (heard : List Entity) (before after : List ℕ) → slice_get watches number ≡ Some w → w.stands ≡ true → old.world.decls ≡ decls → old.world.profile ≡ p20_12 → new.world ≡ old.world → new.limit ≡ old.limit
    → ((its : List Watching) (ends : Watching) → AreWatched old watches its → slice_get its number ≡ Some ends → heard ≡ ends.heard)
    → ((its : List Watching) (ends : Watching) → AreWatched old watches its → slice_get its number ≡ Some ends → AreWatched new left (slice_set its number (ended ends)))
    → after ≡ before ++ ((unwatched_text (length heard) ++ 10 ∷ []) ++ heard_text p20_12 decls number w.kind w.pool heard)
    → Plays old new watches left before after (UnwatchLine number)
unwatched old new watches left number w decls heard before after at stands same profile world limit heard_is watched_is printed its h =
    let ends = item_at its number (omega (arith, h.counted, slice_get_within watches number w at)) in
    let s = ends.item in
    let is = h.each number w s at ends.at in
    let stood : s.stands ≡ true = sym is.stands ∙ stands in
    let outcome : ScriptOutcome = record { printed = (unwatched_text (length s.heard) ++ 10 ∷ []) ++ watch_lines old.world.profile old.world.decls number s; world = old.world; watches = slice_set its number (ended s) } in
    let found : outcome ≡ unwatch_found old.world its number s =
    ap (λ b. if b then outcome else record { printed = refusal_text refusal.Unknown ++ 10 ∷ []; world = old.world; watches = its }) (sym stood) in
    let line : outcome ≡ line_outcome old.limit old.world its (UnwatchLine number) = found ∙ ap (unwatch_outcome old.world its number) (sym ends.at) in
    let told = heard_is its s h ends.at in
    subst (IsAt old.limit new left before after) line (record {
      limit_is = limit;
      world_is = world;
      watched = watched_is its s h ends.at;
      printed = printed ∙ (λ i. before ++ ((unwatched_text (length (told i)) ++ 10 ∷ []) ++ heard_text (sym profile i) (sym same i) number (is.kind i) (is.pool i) (told i)));
    })
