-- Packed lists of registries without groups, and those that an identifier isn't in.
use Rattle.std.proofs.Common.{◌≡◌, ℕ, Bool, true, false, List, [], ◌∷◌, map, get_or, is_some, Some, None, suc, refl, sym, ap, ap₂, ◌∙◌, Result, Ok, Err, OnOk, OnErr}
use Rattle.std.proofs.lemmas.Bool.{and_right, both_ways}
use Rattle.std.proofs.lemmas.List.Sorted.{list_any-IsPermutation}
use Rattle.std.specs.List.{list_any}
use Rattle.std.specs.Option.{option_map_or}
use Rattle.std.specs.Prelude.{IsPermutation}
use Rattle.entity_id.specs.declared.entity.Entity.{Entity}
use Rattle.entity_id.specs.FiniteMap as rows
use Rattle.entity_id.specs.Identifiers.{is_same}
use Rattle.entity_id.specs.PackedLists.{place_of, swap_popped}
use Rattle.entity_id.proofs.PackedListLemmas.{any_by_position}
use Rattle.world_model.specs.declared.command.Command.{Command}
use Rattle.world_model.specs.declared.command.Command.TheVariants.{Create, Destroy, Emplace, EmplaceOrReplace, Remove, Erase, Clear, Group}
use Rattle.world_model.specs.declared.command.Reply.TheVariants.{Made}
use Rattle.world_model.specs.declared.component.Row.{Row}
use Rattle.world_model.specs.declared.group.GroupDecl.{GroupDecl}
use Rattle.world_model.specs.Contents.{has_row, holders}
use Rattle.world_model.specs.Groups.{ArePackedListsOf}
use Rattle.world_model.specs.Steps.{step}
use Rattle.registry.specs.Held.{Held, AsBefore}
use Rattle.registry.specs.Laws.{IsLawfulRegistry}
use Rattle.registry.specs.Packing.{popped, packed_after, regroups}
use Rattle.registry.proofs.ViewLemmas.{any_keys}
use Rattle.registry_uses.proofs.RenewalLemmas.{made_is, new_has_no_row}

-- ---- no groups

-- whether a command may add a group
abbrev pub adds_group : Command → Bool
adds_group (Group decl) = true
adds_group _ = false

none_moves : (list : List ℕ) → list_any (λ _. false) list ≡ false
none_moves [] = refl
none_moves (x ∷ xs) = none_moves xs

-- a registry without its groups
abbrev groupless : Held → Held
groupless held = record held { world = record held.world { groups = [] } }

still_without : (held : Held) (command : Command) → adds_group command ≡ false → (pool : ℕ) → regroups (groupless held) command pool ≡ false
still_without held (Destroy entity) adds pool = none_moves (holders held.world entity)
still_without held (Emplace entity changed row) adds pool = refl
still_without held (EmplaceOrReplace entity changed row) adds pool = and_right _ false refl
still_without held (Remove entity changed) adds pool = and_right _ false refl
still_without held (Erase entity changed) adds pool = refl
still_without held (Clear changed) adds pool = and_right _ false refl
still_without held (Group decl) adds pool = absurd (both_ways _ adds refl)
still_without held _ adds pool = refl

-- where no group stands, no identifier is moved for one's sake, but by a command that adds one
pub nothing_moves : (held : Held) (command : Command) → held.world.groups ≡ [] → adds_group command ≡ false → (pool : ℕ) → regroups held command pool ≡ false
nothing_moves held command none adds pool =
    ap (λ (groups : List GroupDecl). regroups (record held { world = record held.world { groups = groups } }) command pool) none ∙ still_without held command adds pool

-- ---- an identifier that isn't there

-- an identifier without a row isn't in the packed list
unpopped : (e : Entity) (entries : List (Entity × Row)) (list : List Entity) → IsPermutation (rows.keys entries) list → rows.contains entries e ≡ false → popped e list ≡ list
unpopped e entries list same none =
    let absent : is_some (place_of list e) ≡ false = sym (any_by_position (is_same e) list 0) ∙ sym (list_any-IsPermutation (is_same e) (rows.keys entries) list same) ∙ any_keys e entries ∙ none in
    elim (place_of list e) as (λ o. is_some o ≡ false → option_map_or (swap_popped list) o list ≡ list) [
      | None ↦ λ _. refl
      | Some place ↦ λ there. absurd (both_ways _ there refl)
    ] absent

-- nor in any of them, where it has no row at all
all_unpopped : (e : Entity) (pools : List (List (Entity × Row))) (packed : List (List Entity)) → ArePackedListsOf (map rows.keys pools) packed → ((pool : ℕ) → rows.contains (get_or pools pool []) e ≡ false) → map (popped e) packed ≡ packed
all_unpopped e [] [] are none = refl
all_unpopped e [] (list ∷ packed) are none = absurd are
all_unpopped e (entries ∷ pools) [] are none = absurd are
all_unpopped e (entries ∷ pools) (list ∷ packed) are none =
    ap₂ (λ (l : List Entity) (ls : List (List Entity)). l ∷ ls) (unpopped e entries list are.0 (none 0)) (all_unpopped e pools packed are.1 (λ pool. none (suc pool)))

-- once an identifier that was made is destroyed unused, the packed lists are as before
pub same_order : {A E : Type 0} (old after new : Held) (e : Entity) (r : Result A E) → IsLawfulRegistry old → (step old.limit old.world Create).reply ≡ Made e → after.packed ≡ old.packed
    → OnOk r (new.packed ≡ packed_after after (Destroy e)) → OnErr r (AsBefore after new) → new.packed ≡ old.packed
same_order old after new e (Ok x) law reply is packed before =
    packed ∙ ap (map (popped e)) is
    ∙ all_unpopped e old.world.pools old.packed law.packed (λ pool. ap (has_row old.world pool) (made_is old.limit old.world e reply).0 ∙ new_has_no_row old.limit old.world pool law.world)
same_order old after new e (Err x) law reply is packed before = before.packed ∙ is
