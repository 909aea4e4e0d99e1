use Rattle.std.proofs.Common.{◌≡◌, ◌<◌, ◌≤◌, ◌^◌, ◌++◌, List, [], ℕ, map, length, codes, sym, ap, subst, ◌∙◌}
use Rattle.std.specs.List.{flat_map, zip, AllByRecursion}
use Rattle.std.proofs.lemmas.List.{length-map}
use Rattle.entity_id.specs.declared.entity.Entity.{Entity}
use Rattle.entity_id.proofs.ListLemmas.{all-map}
use Rattle.world_model.specs.declared.component.Row.{Row}
use Rattle.world_model.specs.declared.slot.Slot.{Slot}
use Rattle.world_text.specs.Formats.{version_1}
use Rattle.world_text.specs.Lines.{line_text}
use Rattle.world_text.specs.Documents.{header_of}
use Rattle.snapshot.specs.Fields.{u32_bytes, u64_bytes, line_bytes, bytes_of, header_limit, line_limit}
use Rattle.snapshot.specs.Fields as field
use Rattle.snapshot.specs.Packing.{pool_fields}
use Rattle.snapshot.proofs.FewLemmas.{header_few, pools_few}
use Rattle.snapshot.proofs.ShortLemmas.{header_short}
use Rattle.snapshot.proofs.PackLemmas.{header_part, snapshot_parts, five_parts}
use Rattle.snapshot.proofs.packing.pack.Goals as goal

pub push_header-requires : goal.push_header-requires
push_header-requires c =
    let d = c.args.document.now in
    let are : c.deref-2.result.now ≡ map (line_text version_1) (header_of d) = c.deref-2.ensures.value ∙ c.in_ok-lines.ensures in
    record {
      few = subst (λ (ts : List (List ℕ)). length ts ≤ header_limit) (sym are) (subst (λ (n : ℕ). n ≤ header_limit) (sym (length-map (header_of d) (line_text version_1))) (header_few d c.requires));
      short = subst (AllByRecursion (λ (t : List ℕ). length t ≤ line_limit)) (sym are) (all-map (λ (t : List ℕ). length t ≤ line_limit) (line_text version_1) (header_of d) (header_short d c.requires));
    }

pub push_pools-requires : goal.push_pools-requires
push_pools-requires c =
    let w = c.args.document.now.world in
    subst (AllByRecursion (λ (rows : List (Entity × Row)). length rows < 2 ^ 32)) (sym c.as_slice-4.ensures) (pools_few w.profile w.slots w.decls w.pools c.requires.world.slots.few c.requires.world.pools)

pub returns : goal.returns
returns c =
    let d = c.args.document.now in
    let w = c.args.document.now.world in
    let are : c.deref-2.result.now ≡ map (line_text version_1) (header_of d) = c.deref-2.ensures.value ∙ c.in_ok-lines.ensures in
    let one = c.push_header.new.out.items in
    let two = c.push_u64.new.out.items in
    let three = c.push_slots.new.out.items in
    let four = c.push_free.new.out.items in
    let texts = c.deref-2.result.now in
    let header = c.in_ok-push_header.ensures ∙ ap (λ (x : List ℕ). x ++ (codes "WORLDSNP" ++ (u32_bytes 1 ++ (u32_bytes (length texts) ++ flat_map line_bytes texts)))) c.in_ok-out.ensures.items ∙ ap (λ (x : List ℕ). [] ++ x) (header_part d texts are) in
    let slots = c.in_ok-push_slots.ensures ∙ ap (λ (ss : List Slot). two ++ (u32_bytes (length ss) ++ bytes_of (map field.Slot ss))) c.as_slice.ensures in
    let free = c.in_ok-push_free.ensures ∙ ap (λ (indices : List ℕ). three ++ bytes_of (map field.Next indices)) c.as_slice-2.ensures in
    let pools = c.in_ok-push_pools.ensures ∙ (λ i. four ++ bytes_of (flat_map pool_fields (zip (c.as_slice-3.ensures i) (c.as_slice-4.ensures i)))) in
    five_parts one two three four c.push_pools.new.out.items (codes "WORLDSNP") (u32_bytes 1) (u32_bytes (length (header_of d))) (bytes_of (map field.Header (header_of d))) (u64_bytes w.tick) (u32_bytes (length w.slots)) (bytes_of (map field.Slot w.slots)) (bytes_of (map field.Next w.free)) (bytes_of (flat_map pool_fields (zip w.decls w.pools)))
    header c.in_ok-push_u64.ensures slots free pools ∙ sym (snapshot_parts d)
