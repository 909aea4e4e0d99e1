-- What the list of a group's members is.
use Rattle.std.proofs.Common.{◌≡◌, ℕ, ◌<◌, not, List, length, None, IsPermutation, sym, ap, ◌∙◌}
use Rattle.std.proofs.lemmas.Bool.{lt-ltb}
use Rattle.std.proofs.lemmas.List.Sorted.{IsPermutation-sym, list_any-IsPermutation}
use Rattle.entity_id.specs.declared.entity.Entity.{Entity}
use Rattle.entity_id.specs.FiniteMap.{AreAscending, AreDistinctBy}
use Rattle.entity_id.specs.Identifiers.{is_same}
use Rattle.entity_id.proofs.MatchLemmas.{distinct_ascending, equal_members}
use Rattle.entity_id.proofs.PackedListLemmas.{distinct-permutation}
use Rattle.world_model.specs.declared.command.Command.TheVariants.{Members}
use Rattle.world_model.specs.declared.command.Reply.TheVariants.{Listed}
use Rattle.world_model.specs.declared.refusal.Refusal.TheVariants as refusal
use Rattle.world_model.specs.Contents.{keys_of, group_at}
use Rattle.world_model.specs.Groups.{members}
use Rattle.world_model.specs.Outcomes.{Outcome}
use Rattle.world_model.specs.Refusing.{refuse}
use Rattle.world_model.specs.Worlds.{IsLawful}
use Rattle.world_model.proofs.KeyLemmas.{ascending_view}
use Rattle.registry.specs.Held.{Held, reply_to, refusal_to}
use Rattle.registry.proofs.DoneLemmas.{accepted}

-- the members of a group ascend
members_ascend : (held : Held) (group : ℕ) → IsLawful held.limit held.world → AreAscending (members (keys_of held.world) (group_at held.world group))
members_ascend held group lawful = let decl = group_at held.world group in ascending_view held.limit held.world _ decl.without lawful

-- in whatever order they stand, no index comes twice among them
pub members_once : (held : Held) (group : ℕ) (list : List Entity) → IsLawful held.limit held.world → IsPermutation list (members (keys_of held.world) (group_at held.world group)) → AreDistinctBy (λ (e : Entity). e.index) list
members_once held group list lawful matching =
    let all = members (keys_of held.world) (group_at held.world group) in
    distinct-permutation (λ (e : Entity). e.index) all list (IsPermutation-sym list all matching) (distinct_ascending (λ (e : Entity). e.index) all (members_ascend held group lawful))

-- in ascending index they are what the command lists
pub members_reply : (held : Held) (group : ℕ) (list sorted : List Entity) → IsLawful held.limit held.world → group < length held.world.groups → IsPermutation list (members (keys_of held.world) (group_at held.world group))
    → IsPermutation list sorted → AreAscending sorted → reply_to held (Members group) ≡ Listed sorted
members_reply held group list sorted lawful low matching moved ascends =
    let all = members (keys_of held.world) (group_at held.world group) in
    let fine : refusal_to held (Members group) ≡ None = ap (λ b. refuse (not b) refusal.NoGroup) (lt-ltb group (length held.world.groups) low) in
    let same : sorted ≡ all = equal_members sorted all ascends (members_ascend held group lawful) (λ e. sym (list_any-IsPermutation (is_same e) list sorted moved) ∙ list_any-IsPermutation (is_same e) list all matching) in
    ap (λ (o : Outcome). o.reply) (accepted held.limit held.world (Members group) fine) ∙ ap Listed (sym same)
