use Rattle.std.proofs.Common.{◌≡◌, ℕ, ◌<◌, ◌/◌, ◌%◌, List, [], length, set, get_or, Some, slice_get, ap, subst, ◌∙◌, sym, refl}
use Rattle.std.proofs.lemmas.Option.{get_or_from_slice_get, slice_get_read}
use Rattle.sparse_set.specs.Pages.{page_of, Puts, HasPlace}
use Rattle.sparse_set.proofs.PageLemmas.{page_within, puts}
use Rattle.sparse_set.proofs.pages.Pages.set.Goals as goal

pub returns : goal.returns
returns c =
    let index : ℕ = c.args.index in
    let pages : List (List ℕ) = c.self.inside.list.items in
    let has : HasPlace pages index = subst (λ (list : List (List ℕ)). HasPlace list index) (sym c.self.view_is) c.requires in
    let page : List ℕ = c.index_mut.result.now in
    let found : slice_get pages (index / 4096) ≡ Some page = slice_get_read pages (length pages) (index / 4096) page refl (page_within pages index has) c.index_mut.ensures.value in
    let changed : c.set.new.self ≡ set (page_of pages (index / 4096)) (index % 4096) c.args.place =
    c.set.ensures ∙ ap (λ (list : List ℕ). set list (index % 4096) c.args.place) (sym (get_or_from_slice_get pages (index / 4096) page [] found)) in
    subst (λ (list : List (List ℕ)). Puts list (set pages (index / 4096) c.set.new.self) index c.args.place) c.self.view_is (puts pages index c.args.place c.set.new.self has changed)
