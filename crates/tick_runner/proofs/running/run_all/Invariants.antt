use Rattle.std.proofs.Common.{◌≡◌, ℕ, ◌≤◌, [], length, map, take, vec_capacity, slice_get}
use Rattle.entity_id.specs.FiniteMap as entries
use Rattle.world_model.specs.Frames.{pool_limit}
use Rattle.world_model.specs.Ticks.{maps_after_systems, orders_of}
use Rattle.registry.specs.Layout.{maps_of}
use Rattle.registry.specs.Lending.{shapes_of}
use Rattle.tick_runner.specs.Running.{orders_in}
use Rattle.tick_runner.proofs.running.run_all.Given as goal

abbrev pub invariant-loop-place : goal.invariant-loop-place
invariant-loop-place g l = record {
  rows : maps_of l.pools.items ≡ maps_after_systems (map g.S.System.effect (take l.place l.systems)) l.tick (maps_of l.initial.pools.items);
  keys : map entries.keys (maps_of l.pools.items) ≡ map entries.keys (maps_of l.initial.pools.items);
  shapes : shapes_of l.pools.items ≡ shapes_of l.initial.pools.items;
  count : length l.pools.items ≡ length l.initial.pools.items;
  list : l.room.items ≡ [];
  room : pool_limit ≤ vec_capacity l.room;
  each : length l.buffers.items ≡ length l.initial.buffers.items;
  orders : map orders_in (take l.place l.buffers.items) ≡ orders_of (map g.S.System.effect (take l.place l.systems)) l.tick (maps_of l.initial.pools.items);
  rest : (k : ℕ) → l.place ≤ k → slice_get l.buffers.items k ≡ slice_get l.initial.buffers.items k;
}
