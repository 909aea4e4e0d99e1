use Rattle.std.proofs.Common.{◌≡◌, ◌-◌, length, Some, slice_get, get_or, refl, ◌∙◌, arith}
use Rattle.std.proofs.lemmas.Option.{slice_get-get_or, slice_get_read}
use Rattle.entity_id.proofs.PackedListLemmas.{swap_removed}
use Rattle.sparse_set.proofs.PlaceLemmas.{distinct, packed_has_place, taken_out}
use Rattle.sparse_set.proofs.places.take_out.Goals as goal

pub set-requires : goal.set-requires
set-requires c =
    let last = c.index-last.result.now in
    let here : slice_get c.args.packed.now.items (c.len.result - 1) ≡ Some last = slice_get_read c.args.packed.now.items (length c.args.packed.now.items) (c.len.result - 1) last refl (omega arith) c.index-last.ensures in
    packed_has_place c.args.packed.now.items c.args.pages.now c.requires.placed (c.len.result - 1) last here

pub returns-clause-list : goal.returns-clause-list
returns-clause-list c = c.swap_remove.ensures.items ∙ swap_removed c.args.packed.now.items c.args.place c.swap_remove.result c.requires.within

pub returns-clause-placed : goal.returns-clause-placed
returns-clause-placed c =
    let xs = c.args.packed.now.items in
    let last = c.index-last.result.now in
    let at : c.len.result ≡ length xs = omega arith in
    let read : last ≡ get_or xs (length xs - 1) last = rw at at c.index-last.ensures in
    let here : slice_get xs (length xs - 1) ≡ Some last = slice_get_read xs (length xs) (length xs - 1) last refl (omega arith) read in
    rw (c.swap_remove.ensures.items, swap_removed xs c.args.place c.swap_remove.result c.requires.within)
    (taken_out xs c.args.pages.now c.requires.placed c.args.place _ last _ (slice_get-get_or xs c.args.place last c.requires.within) here c.set.ensures)

pub returns-clause-distinct : goal.returns-clause-distinct
returns-clause-distinct c = distinct _ _ (returns-clause-placed c)
