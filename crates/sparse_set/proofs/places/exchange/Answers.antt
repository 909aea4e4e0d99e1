use Rattle.std.proofs.Common.{◌≡◌, ◌/◌, ◌%◌, length, Some, slice_get, refl, arith}
use Rattle.std.proofs.lemmas.Option.{slice_get_read}
use Rattle.sparse_set.specs.Pages.{HasPlace}
use Rattle.sparse_set.proofs.PlaceLemmas.{distinct, exchanged, packed_has_place}
use Rattle.sparse_set.proofs.places.exchange.Goals as goal

pub set-requires : goal.set-requires
set-requires c =
    let here : slice_get c.args.packed.now.items c.args.a ≡ Some c.index.result.now = slice_get_read c.args.packed.now.items (length c.args.packed.now.items) c.args.a c.index.result.now refl c.requires.a c.index.ensures in
    packed_has_place c.args.packed.now.items c.args.pages.now c.requires.placed c.args.a c.index.result.now here

pub set-requires-2 : goal.set-requires-2
set-requires-2 c =
    let here : slice_get c.args.packed.now.items c.args.b ≡ Some c.index-2.result.now = slice_get_read c.args.packed.now.items (length c.args.packed.now.items) c.args.b c.index-2.result.now refl c.requires.b c.index-2.ensures in
    let within : HasPlace c.args.pages.now c.index-2.result.now.index = packed_has_place c.args.packed.now.items c.args.pages.now c.requires.placed c.args.b c.index-2.result.now here in
    rw (c.set.ensures.lengths (c.index-2.result.now.index / 4096)) within

pub returns-clause-placed : goal.returns-clause-placed
returns-clause-placed c =
    let first : slice_get c.args.packed.now.items c.args.a ≡ Some c.index.result.now = slice_get_read c.args.packed.now.items (length c.args.packed.now.items) c.args.a c.index.result.now refl c.requires.a c.index.ensures in
    let second : slice_get c.args.packed.now.items c.args.b ≡ Some c.index-2.result.now = slice_get_read c.args.packed.now.items (length c.args.packed.now.items) c.args.b c.index-2.result.now refl c.requires.b c.index-2.ensures in
    rw c.swap.ensures.items
    (exchanged c.args.packed.now.items c.args.pages.now c.requires.placed c.args.a c.args.b c.index.result.now c.index-2.result.now _ _ first second c.set.ensures c.set-2.ensures)

pub returns-clause-distinct : goal.returns-clause-distinct
returns-clause-distinct c = distinct _ _ (returns-clause-placed c)
