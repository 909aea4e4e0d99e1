-- Room for orders, one after another.
use Rattle.std.proofs.Common.{◌≡◌, ℕ, suc, ◌+◌, ◌<◌, ◌≤◌, Bool, true, false, cond, List, [], ◌∷◌, drop, get_or, length, Option, Some, None, sym, refl, ap, ◌∙◌, subst, arith, add-one, length-set, length-append}
use Rattle.std.specs.Prelude.{min, count_by, slice_index}
use Rattle.std.proofs.Math.Seq.{drop-cons, drop-length}
use Rattle.std.proofs.lemmas.List.Sums.{sum_by-cons}
use Rattle.entity_id.specs.declared.entity.Entity.{Entity}
use Rattle.signal_sink.specs.Hearings.{HaveSpare}
use Rattle.world_model.specs.declared.command.Command.{Command}
use Rattle.world_model.specs.declared.command.Command.TheVariants.{Create, Destroy, EmplaceOrReplace, Erase, Patch}
use Rattle.world_model.specs.declared.deferred.Deferred.{Deferred}
use Rattle.world_model.specs.declared.deferred.Deferred.TheVariants.{Kill, Give, Take, Send, Add, Spawn, Bear}
use Rattle.world_model.specs.declared.deferred.Needs.{Needs}
use Rattle.world_model.specs.declared.slot.Slot.{Slot}
use Rattle.world_model.specs.declared.world.World.{World}
use Rattle.world_model.specs.Orders.{is_add, is_update, is_spawn, command_of, order_outcome, Covers}
use Rattle.world_model.specs.Outcomes.{Outcome, outcome_of}
use Rattle.entity_id.specs.Identifiers.{next_version}
use Rattle.world_model.specs.Slots.{live_slot, free_slot, version_at, plain_creation}
use Rattle.world_model.specs.Steps.{step}
use Rattle.world_model.proofs.OrderLaw.{orders_same}
use Rattle.world_model.proofs.StepLemmas.{step_cases}
use Rattle.registry.specs.Applying.{outcome_in, IsCarriedOut}
use Rattle.registry.specs.Held.{Held}
use Rattle.registry.specs.Rooms.{rows_in, room_in, hearings_in, slots_after, HasRoomInPool, HasRoom, HasRoomFor, AreLeft, HasRoomForOrders}
use Rattle.registry.specs.Spending.{nowhere, adds_of, updates_of, spawns_of, Spends, HasRoomAlso}
use Rattle.registry.proofs.SpendLemmas.{spare_less, room_left}

-- ---- less room

-- room for more is room for less
pub room_less : (more_adds more_updates adds updates : ℕ → ℕ) (more_spawns spawns : ℕ) (held : Held) → HasRoom more_adds more_updates more_spawns held → ((pool : ℕ) → pool < length held.world.decls → adds pool ≤ more_adds pool)
    → ((pool : ℕ) → pool < length held.world.decls → updates pool ≤ more_updates pool) → spawns ≤ more_spawns → HasRoom adds updates spawns held
room_less more_adds more_updates adds updates more_spawns spawns held room fewer_adds fewer_updates fewer =
    let slots : slots_after held more_spawns ≤ length held.world.slots + held.slots_spare = room.slots in
    record {
      slots = omega arith;
      pools = λ pool low.
          let h = room.pools pool low in
          let add : adds pool ≤ more_adds pool = fewer_adds pool low in
          let spare : more_adds pool ≤ (room_in held.rooms pool).spare = h.spare in
          record {
            spare = omega arith;
            indices = λ some. let enough : slots_after held more_spawns ≤ (room_in held.rooms pool).index_bound = h.indices (omega arith) in omega arith;
            construct = spare_less (adds pool) (more_adds pool) (hearings_in held.construct pool) add h.construct;
            update = spare_less (updates pool) (more_updates pool) (hearings_in held.update pool) (fewer_updates pool low) h.update;
            destroy = spare_less (rows_in held.packed pool + adds pool) (rows_in held.packed pool + more_adds pool) (hearings_in held.destroy pool) (omega arith) h.destroy;
          };
    }

-- ---- slots

-- a creation makes one slot at most
created_few : (slots : List Slot) (free : List ℕ) → length (plain_creation slots free).slots ≤ length slots + 1
created_few slots [] = omega (arith, length-append slots (live_slot 0 ∷ []))
created_few slots (index ∷ free) = omega (arith, length-set slots index (live_slot (version_at slots index)))

-- as many slots as the outcome of a command that isn't refused
of_command : (limit : ℕ) (w : World) (command : Command) (n : ℕ) → length w.slots ≤ n → length (outcome_of limit w command).world.slots ≤ n → length (step limit w command).world.slots ≤ n
of_command limit w command n stays done = step_cases (λ (o : Outcome). length o.world.slots ≤ n) limit w command (λ cause is. stays) (λ passes. done)

-- no order but a Spawn makes a slot
slots_few : (limit : ℕ) (w : World) (last : Option Entity) (order : Deferred) → length (order_outcome limit w last order).world.slots ≤ length w.slots + spawns_of order
slots_few limit w last (Kill e) = of_command limit w (Destroy e) (length w.slots + 0) (omega arith) (omega (arith, length-set w.slots e.index (free_slot (next_version w.profile e.version))))
slots_few limit w last (Give e pool row) = of_command limit w (EmplaceOrReplace e pool row) (length w.slots + 0) (omega arith) (omega arith)
slots_few limit w last (Take e pool) = of_command limit w (Erase e pool) (length w.slots + 0) (omega arith) (omega arith)
slots_few limit w last (Send e pool field value) = of_command limit w (Patch e pool field value) (length w.slots + 0) (omega arith) (omega arith)
slots_few limit w last (Add e pool field value) = of_command limit w (Patch e pool field _) (length w.slots + 0) (omega arith) (omega arith)
slots_few limit w last Spawn = of_command limit w Create (length w.slots + 1) (omega arith) (created_few w.slots w.free)
slots_few limit w None (Bear pool row) = omega arith
slots_few limit w (Some e) (Bear pool row) = of_command limit w (EmplaceOrReplace e pool row) (length w.slots + 0) (omega arith) (omega arith)

-- ---- what orders count

count_more : (test : Deferred → Bool) (orders : List Deferred) (i : ℕ) (none : Deferred) → i < length orders → count_by test (drop i orders) ≡ cond (test (get_or orders i none)) 1 0 + count_by test (drop (i + 1) orders)
count_more test orders i none low =
    ap (count_by test) (drop-cons orders i none low ∙ ap (λ n. get_or orders i none ∷ drop n orders) (sym (add-one i)))
    ∙ sum_by-cons (λ order. cond (test order) 1 0) (get_or orders i none) (drop (i + 1) orders)

-- one order was carried out
pub left_more : (mid new : Held) (orders : List Deferred) (i : ℕ) (none : Deferred) (last : Option Entity) (done : Bool) → i < length orders → IsCarriedOut mid new (outcome_in mid last (get_or orders i none)) done
    → Spends (adds_of (get_or orders i none)) (updates_of (get_or orders i none)) mid new → (adds updates : ℕ → ℕ) (spawns : ℕ) → HasRoomAlso adds updates spawns (drop i orders) mid → HasRoomAlso adds updates spawns (drop (i + 1) orders) new
left_more mid new orders i none last done low carried spent adds updates spawns room =
    let order : Deferred = get_or orders i none in
    let outcome : Outcome = outcome_in mid last order in
    let few : length new.world.slots ≤ length mid.world.slots + spawns_of order = subst (λ (w : World). length w.slots ≤ length mid.world.slots + spawns_of order) (sym carried.becomes.world) (slots_few mid.limit mid.world last order) in
    let decls : length new.world.decls ≡ length mid.world.decls = ap (λ (w : World). length w.decls) carried.becomes.world
    ∙ ap length (orders_same mid.limit (record { world = mid.world; last = last; events = []; done = 0; skipped = 0 }) (order ∷ [])).decls in
    room_left (adds_of order) (updates_of order) (λ pool. adds pool + count_by (is_add pool) (drop (i + 1) orders)) (λ pool. updates pool + count_by (is_update pool) (drop (i + 1) orders)) (spawns + count_by is_spawn (drop (i + 1) orders)) (spawns_of order) mid new
    (room_less _ _ _ _ (spawns + count_by is_spawn (drop i orders)) _ mid room (λ pool _. omega (arith, count_more (is_add pool) orders i none low)) (λ pool _. omega (arith, count_more (is_update pool) orders i none low)) (omega (arith, count_more is_spawn orders i none low)))
    spent carried.becomes.limit decls few

-- there is room for the next one
pub room_for_next : (mid : Held) (orders : List Deferred) (i : ℕ) (none : Deferred) → i < length orders → HasRoomAlso nowhere nowhere 0 (drop i orders) mid → HasRoom (adds_of (get_or orders i none)) (updates_of (get_or orders i none)) (spawns_of (get_or orders i none)) mid
room_for_next mid orders i none low room =
    room_less (λ pool. 0 + count_by (is_add pool) (drop i orders)) (λ pool. 0 + count_by (is_update pool) (drop i orders)) (adds_of (get_or orders i none)) (updates_of (get_or orders i none)) (0 + count_by is_spawn (drop i orders)) (spawns_of (get_or orders i none)) mid room
    (λ pool _. omega (arith, count_more (is_add pool) orders i none low)) (λ pool _. omega (arith, count_more (is_update pool) orders i none low)) (omega (arith, count_more is_spawn orders i none low))

-- none are left
pub left_last : (held : Held) (orders : List Deferred) (adds updates : ℕ → ℕ) (spawns : ℕ) → HasRoomAlso adds updates spawns (drop (length orders) orders) held → HasRoom adds updates spawns held
left_last held orders adds updates spawns room =
    let none : drop (length orders) orders ≡ [] = drop-length orders in
    let at = subst (λ (list : List Deferred). HasRoomAlso adds updates spawns list held) none room in
    room_less (λ pool. adds pool + 0) (λ pool. updates pool + 0) adds updates (spawns + 0) spawns held at (λ pool _. omega arith) (λ pool _. omega arith) (omega arith)

-- ---- needs

-- needs that cover the orders are room for them
pub room_by_needs : (held : Held) (orders : List Deferred) → HasRoomForOrders orders held → HasRoomAlso nowhere nowhere 0 orders held
room_by_needs held orders h =
    let needs : Needs = h.needs in
    let covers : Covers (length held.world.decls) needs orders = h.covers in
    let spawns : count_by is_spawn orders ≤ needs.spawns = covers.spawns in
    room_less (slice_index needs.adds) (slice_index needs.updates) (λ pool. 0 + count_by (is_add pool) orders) (λ pool. 0 + count_by (is_update pool) orders) needs.spawns (0 + count_by is_spawn orders) held h.room
    (λ pool low. omega (arith, covers.adds pool low)) (λ pool low. omega (arith, covers.updates pool low)) (omega arith)

-- what they leave of any needs
pub needs_left : (old new : Held) (orders : List Deferred) (needs left : Needs) → AreLeft needs left orders → HasRoomFor needs old → ((adds updates : ℕ → ℕ) (spawns : ℕ) → HasRoomAlso adds updates spawns orders old → HasRoom adds updates spawns new) → HasRoomFor left new
needs_left old new orders needs left are room leaves =
    leaves (slice_index left.adds) (slice_index left.updates) left.spawns
    (room_less (slice_index needs.adds) (slice_index needs.updates) (λ pool. slice_index left.adds pool + count_by (is_add pool) orders) (λ pool. slice_index left.updates pool + count_by (is_update pool) orders) needs.spawns (left.spawns + count_by is_spawn orders) old room
    (λ pool _. are.adds pool) (λ pool _. are.updates pool) are.spawns)
