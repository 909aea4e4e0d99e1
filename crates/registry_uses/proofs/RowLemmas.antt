-- Rows that are set, removed and told.
use Rattle.std.proofs.Common.{◌≡◌, ℕ, ◌<◌, ℤ, true, false, cond, is_some, List, [], ◌∷◌, length, Option, Some, None, refl, ap, ap₂, ◌∙◌, arith}
use Rattle.std.proofs.lemmas.List.{get_or-set_same}
use Rattle.std.proofs.Common.{SFits, w64, to_z, of_z}
use Rattle.std.proofs.lemmas.Int.{to_z-of_z}
use Rattle.entity_id.specs.declared.entity.Entity.{Entity}
use Rattle.entity_id.specs.FiniteMap as rows
use Rattle.entity_id.proofs.MapLemmas.{get-put_same, get-remove_same}
use Rattle.world_model.specs.declared.command.Command.TheVariants.{Get, Remove}
use Rattle.world_model.specs.declared.command.Reply.TheVariants.{Number, Values}
use Rattle.world_model.specs.declared.component.Row.{Row}
use Rattle.world_model.specs.declared.refusal.Refusal.{Refusal}
use Rattle.world_model.specs.declared.world.World.{World}
use Rattle.world_model.specs.Contents.{has_row, pool_at, with_pool}
use Rattle.world_model.specs.Groups.{are_declared}
use Rattle.world_model.specs.Outcomes.{answers, drops, outcome_of}
use Rattle.world_model.specs.Refusing.{when_no_entry}
use Rattle.world_model.specs.Slots.{is_live}
use Rattle.world_model.specs.Worlds.{IsLawful}
use Rattle.world_model.proofs.AcceptedLemmas.{entry_declared, entry_live}
use Rattle.world_model.proofs.StepLemmas.{remove_cases}
use Rattle.registry.specs.Held.{Held, reply_to}
use Rattle.registry.proofs.DoneLemmas.{length_all_zip}
use Rattle.registry_uses.specs.Scenes.{pair}
use Rattle.registry_uses.proofs.SceneLemmas.{row_is_told}

-- ---- rows set

-- the component of a command on one row is declared
pub entry_declares : (w : World) (pool : ℕ) (e : Entity) (further : Option Refusal) → when_no_entry w pool e further ≡ None → are_declared (length w.decls) (pool ∷ []) ≡ true
entry_declares w pool e further h = grind arith

-- each declared component has its rows
pub pools_of : (limit : ℕ) (w : World) (pool : ℕ) → IsLawful limit w → pool < length w.decls → pool < length w.pools
pools_of limit w pool lawful within = let each = length_all_zip _ w.decls w.pools lawful.pools in omega (arith, each, within)

-- the rows of a component once one of them is set
pub pool_set : (limit : ℕ) (w : World) (pool : ℕ) (e : Entity) (further : Option Refusal) (entries : List (Entity × Row)) → IsLawful limit w → when_no_entry w pool e further ≡ None → pool_at (with_pool w pool entries) pool ≡ entries
pool_set limit w pool e further entries lawful passes =
    get_or-set_same w.pools pool entries [] (pools_of limit w pool lawful (entry_declared w pool e further passes))

-- a row that was set is there
pub set_is_there : (old new : Held) (e : Entity) (pool : ℕ) (row : Row) (further : Option Refusal) → IsLawful old.limit old.world → when_no_entry old.world pool e further ≡ None
    → new.world ≡ with_pool old.world pool (rows.put (pool_at old.world pool) e row) → rows.get (pool_at new.world pool) e ≡ Some row
set_is_there old new e pool row further lawful passes world =
    ap (λ (w : World). rows.get (pool_at w pool) e) world ∙ ap (λ (l : List (Entity × Row)). rows.get l e) (pool_set old.limit old.world pool e further _ lawful passes) ∙ get-put_same (pool_at old.world pool) e row

-- and it is told
pub set_is_told : (old new : Held) (e : Entity) (pool : ℕ) (row : Row) (further : Option Refusal) → IsLawful old.limit old.world → when_no_entry old.world pool e further ≡ None
    → new.world ≡ with_pool old.world pool (rows.put (pool_at old.world pool) e row) → reply_to new (Get e pool) ≡ Values row
set_is_told old new e pool row further lawful passes world =
    row_is_told new pool e row
    (ap (λ (w : World). are_declared (length w.decls) (pool ∷ [])) world ∙ entry_declares old.world pool e further passes)
    (ap (λ (w : World). is_live w.slots e) world ∙ entry_live old.world pool e further passes)
    (set_is_there old new e pool row further lawful passes world)

-- a row that was removed is gone
pub removed_is_gone : (limit : ℕ) (w : World) (pool : ℕ) (e : Entity) → IsLawful limit w → when_no_entry w pool e None ≡ None → has_row (outcome_of limit w (Remove e pool)).world pool e ≡ false
removed_is_gone limit w pool e lawful passes =
    elim (has_row w pool e) as (λ b. has_row w pool e ≡ b → has_row (cond b (drops w e pool (Number 1)) (answers w (Number 0))).world pool e ≡ false) [
      | true ↦ λ _. ap is_some (ap (λ (l : List (Entity × Row)). rows.get l e) (pool_set limit w pool e None (rows.remove (pool_at w pool) e) lawful passes) ∙ get-remove_same (pool_at w pool) e)
      | false ↦ λ none. none
    ] refl

-- a removal keeps the groups
pub remove_groups : (limit : ℕ) (w : World) (e : Entity) (pool : ℕ) → (outcome_of limit w (Remove e pool)).world.groups ≡ w.groups
remove_groups limit w e pool = remove_cases (λ o. o.world.groups ≡ w.groups) w e pool refl refl

-- ---- numbers

-- a number as a call is passed it
pub given : (x : ℤ) → SFits w64 x → to_z w64 (of_z w64 x) ≡ x
given x fits = to_z-of_z w64 x fits

pub pair_given : (x y : ℤ) → SFits w64 x → SFits w64 y → pair (to_z w64 (of_z w64 x)) (to_z w64 (of_z w64 y)) ≡ pair x y
pair_given x y x_fits y_fits = ap₂ pair (given x x_fits) (given y y_fits)
