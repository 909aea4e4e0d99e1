use Rattle.std.proofs.Common.{◌≡◌, ◌+◌, take, drop, reverse, get_or, [], sym, ap, ◌∙◌, arith}
use Rattle.std.specs.Prelude.{filter}
use Rattle.std.proofs.lemmas.List.{take-map, drop-map, get_or-map, length-map}
use Rattle.pool_view.specs.HeldSets.{is_viewed_beside, list_at, lists_of}
use Rattle.pool_view.proofs.WalkLemmas.{walk_is, distinct_walk, length_walk}
use Rattle.pool_view.proofs.walk.walk.Goals as goal

pub returns-clause-walk : goal.returns-clause-walk
returns-clause-walk c =
    let k = c.leading-lead.result in
    let now = c.args.included.now in
    let set = c.index-included-lead.result in
    let before : lists_of c.split_at.result.0.now ≡ take k (lists_of now) = ap lists_of c.split_at.ensures.front ∙ sym (take-map list_at k now) in
    let behind : lists_of c.split_at-2.result.1.now ≡ drop (k + 1) (lists_of now) = ap lists_of c.split_at-2.ensures.back ∙ sym (drop-map list_at (k + 1) now) in
    let rest : c.packed_at.result.now ≡ get_or (lists_of now) k [] = c.packed_at.ensures.list ∙ ap list_at c.index-included-lead.is ∙ sym (get_or-map list_at now k set [] c.leading-lead.ensures.within) in
    (λ i. filter (is_viewed_beside (before i) (behind i) (lists_of c.args.excluded.now)) (reverse (rest i)))
    ∙ walk_is (lists_of now) (lists_of c.args.excluded.now) k c.leading-lead.ensures.place (omega (arith, length-map now list_at, c.leading-lead.ensures.within))

pub returns-clause-each_once : goal.returns-clause-each_once
returns-clause-each_once c = distinct_walk _ c.packed_at.result.now c.packed_at.ensures.distinct

pub returns-clause-few : goal.returns-clause-few
returns-clause-few c = omega (arith, length_walk (is_viewed_beside (lists_of c.split_at.result.0.now) (lists_of c.split_at-2.result.1.now) (lists_of c.args.excluded.now)) c.packed_at.result.now, c.packed_at.ensures.few)
