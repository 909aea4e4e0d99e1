use Rattle.std.proofs.Common.{◌≡◌, ◌++◌, ◌∷◌, [], List, ℕ, length, take, map, sym, ap, ◌∙◌, codes, append_assoc}
use Rattle.std.specs.Fmt.{decimal}
use Rattle.std.specs.List.{flat_map, zip}
use Rattle.entity_id.specs.declared.entity.Profile.{Profile}
use Rattle.world_text.specs.declared.document.Document.{Document}
use Rattle.world_text.specs.LineKinds as line
use Rattle.world_text.specs.Formats.{version_1}
use Rattle.world_text.specs.Lines.{line_text, text_of}
use Rattle.world_text.specs.Documents.{header_of, pool_lines, lines_of}
use Rattle.world_text.proofs.PrintingLemmas.{front_of, front_on, text_of-append}
use Rattle.world_text.proofs.printing.push_lines.Goals as goal

-- the canonical text, part by part
parts : (d : Document) → text_of version_1 (lines_of d) ≡ (codes "world " ++ decimal 1 ++ 10 ∷ []) ++ (text_of version_1 (header_of d) ++ ((codes "tick " ++ decimal d.world.tick ++ 10 ∷ []) ++ (text_of version_1 (map line.Slot d.world.slots) ++ (text_of version_1 (map line.Next d.world.free) ++ (text_of version_1 (flat_map (pool_lines d.world.profile) (zip d.world.decls d.world.pools)) ++ (codes "end" ++ 10 ∷ []))))))
parts d =
    let w = d.world in
    let first = line_text version_1 line.Version ++ 10 ∷ [] in
    let header = text_of version_1 (header_of d) in
    let tick = line_text version_1 (line.Tick w.tick) ++ 10 ∷ [] in
    let pools = flat_map (pool_lines w.profile) (zip w.decls w.pools) in
    let slots = text_of version_1 (map line.Slot w.slots) in
    ap (λ x. first ++ x) (text_of-append version_1 (header_of d) _)
    ∙ ap (λ x. first ++ (header ++ (tick ++ x))) (text_of-append version_1 (map line.Slot w.slots) _ ∙ ap (λ x. slots ++ x) (text_of-append version_1 (map line.Next w.free) _ ∙ ap (λ x. text_of version_1 (map line.Next w.free) ++ x) (text_of-append version_1 pools (line.End ∷ []))))

seven_parts : (start one two three four five six seven a b d e f g h : List ℕ) → one ≡ start ++ a → two ≡ one ++ b → three ≡ two ++ d → four ≡ three ++ e → five ≡ four ++ f → six ≡ five ++ g → seven ≡ six ++ h → seven ≡ start ++ (a ++ (b ++ (d ++ (e ++ (f ++ (g ++ h))))))
seven_parts start one two three four five six seven a b d e f g h p q r s t u v =
    v ∙ ap (λ x. x ++ h) (u ∙ ap (λ x. x ++ g) (t ∙ ap (λ x. x ++ f) (s ∙ ap (λ x. x ++ e) (r ∙ ap (λ x. x ++ d) (q ∙ ap (λ x. x ++ b) p))))) ∙ simp append_assoc

pub returns-in_err-push_pools-clause-front : goal.returns-in_err-push_pools-clause-front
returns-in_err-push_pools-clause-front c =
    let start = c.args.out.now.items in
    let version : take (length start) c.push_number.new.out.items ≡ start = front_of start _ c.push_number.new.out.items c.in_ok-push_number.ensures.ok in
    let header = front_on start c.push_number.new.out.items c.push_header.new.out.items version c.in_ok-push_header.ensures.front in
    let ticked : take (length c.push_header.new.out.items) c.push_number-2.new.out.items ≡ c.push_header.new.out.items = front_of c.push_header.new.out.items _ c.push_number-2.new.out.items c.in_ok-push_number-2.ensures.ok in
    let tick = front_on start c.push_header.new.out.items c.push_number-2.new.out.items header ticked in
    let slots = front_on start c.push_number-2.new.out.items c.push_slots.new.out.items tick c.in_ok-push_slots.ensures.front in
    let nexts = front_on start c.push_slots.new.out.items c.push_nexts.new.out.items slots c.in_ok-push_nexts.ensures.front in
    front_on start c.push_nexts.new.out.items c.push_pools.new.out.items nexts c.in_err-push_pools.ensures.front

pub returns-clause-ok : goal.returns-clause-ok
returns-clause-ok c =
    let d = c.args.document.now in
    let w = c.args.document.now.world in
    let slots : c.push_slots.new.out.items ≡ c.push_number-2.new.out.items ++ text_of version_1 (map line.Slot w.slots) = rw c.as_slice.ensures at c.in_ok-push_slots.ensures.ok in
    let nexts : c.push_nexts.new.out.items ≡ c.push_slots.new.out.items ++ text_of version_1 (map line.Next w.free) = rw c.as_slice-2.ensures at c.in_ok-push_nexts.ensures.ok in
    let pools : c.push_pools.new.out.items ≡ c.push_nexts.new.out.items ++ text_of version_1 (flat_map (pool_lines w.profile) (zip w.decls w.pools)) =
    (rw (c.as_slice-3.ensures, c.as_slice-4.ensures) at c.in_ok-push_pools.ensures.ok)
    ∙ ap (λ (p : Profile). c.push_nexts.new.out.items ++ text_of version_1 (flat_map (pool_lines p) (zip w.decls w.pools))) (sym c.requires.profile) in
    seven_parts _ _ _ _ _ _ _ _ _ _ _ _ _ _ _ c.in_ok-push_number.ensures.ok c.in_ok-push_header.ensures.ok c.in_ok-push_number-2.ensures.ok slots nexts pools c.in_ok-extend_from_slice.ensures.items
    ∙ ap (λ x. c.args.out.now.items ++ x) (sym (parts d))
