-- Packed lists that a command leaves, where it moves none for the groups' sake.
use Rattle.std.proofs.Common.{◌≡◌, ℕ, suc, false, true, if◌then◌else◌, List, [], ◌∷◌, ◌++◌, length, set, refl, sym, ap₂, ◌∙◌, Bool, drop, arith}
use Rattle.std.proofs.lemmas.List.{length-map, length-set}
use Rattle.entity_id.specs.declared.entity.Entity.{Entity}
use Rattle.world_model.specs.declared.command.Command.{Command}
use Rattle.world_model.specs.declared.command.Command.TheVariants.{Destroy, Emplace, EmplaceOrReplace, Remove, Erase, Clear, SortPool, SortGroup}
use Rattle.world_model.specs.Contents.{has_row, group_at}
use Rattle.world_model.specs.Groups.{packed_at}
use Rattle.registry.specs.Held.{Held}
use Rattle.registry.specs.Packing.{popped, appended_in, arranged_in, packed_after, regroups, Repacks}

-- lists of packed lists are equal where they are as long and equal pool by pool
same_lists : (a b : List (List Entity)) → length a ≡ length b → ((pool : ℕ) → packed_at a pool ≡ packed_at b pool) → a ≡ b
same_lists [] [] long each = refl
same_lists [] (y ∷ ys) long each = absurd (let h : 0 ≡ suc (length ys) = long in omega arith)
same_lists (x ∷ xs) [] long each = absurd (let h : suc (length xs) ≡ 0 = long in omega arith)
same_lists (x ∷ xs) (y ∷ ys) long each = ap₂ (λ (l : List Entity) (ls : List (List Entity)). l ∷ ls) (each 0) (same_lists xs ys (let h : suc (length xs) ≡ suc (length ys) = long in omega arith) (λ pool. each (suc pool)))

arranged_length : (pools : List ℕ) (order : List Entity) (packed : List (List Entity)) → length (arranged_in pools order packed) ≡ length packed
arranged_length [] order packed = refl
arranged_length (pool ∷ pools) order packed =
    arranged_length pools order (set packed pool (order ++ drop (length order) (packed_at packed pool))) ∙ length-set packed pool (order ++ drop (length order) (packed_at packed pool))

-- no command adds or drops a pool
after_length : (held : Held) (command : Command) → length (packed_after held command) ≡ length held.packed
after_length held (Destroy entity) = length-map held.packed (popped entity)
after_length held (Emplace entity pool row) = length-set held.packed pool _
after_length held (EmplaceOrReplace entity pool row) = either (has_row held.world pool entity)
  where
    either : (b : Bool) → length (if b then held.packed else appended_in pool entity held.packed) ≡ length held.packed
    either true = refl
    either false = length-set held.packed pool _
after_length held (Remove entity pool) = length-set held.packed pool _
after_length held (Erase entity pool) = length-set held.packed pool _
after_length held (Clear pool) = length-set held.packed pool []
after_length held (SortPool pool field) = length-set held.packed pool _
after_length held (SortGroup group pool field) = arranged_length (group_at held.world group).own _ held.packed
after_length held _ = refl

pub repacked : (old new : Held) (command : Command) → ((pool : ℕ) → regroups old command pool ≡ false) → Repacks old new command → new.packed ≡ packed_after old command
repacked old new command still packed =
    same_lists new.packed (packed_after old command) (packed.each ∙ sym (after_length old command)) (λ pool. packed.lists.still pool (still pool))
