use Rattle.std.proofs.Common.{ℕ, ◌++◌, List, length, sym, ap, ◌∙◌, get_or}
use Rattle.system_eval.specs.Runs.{least_of, sizes_at}
use Rattle.system_eval.proofs.SizeLemmas.{least-lists, declared-at, declared-join}
use Rattle.system_eval.proofs.sizes.least_own.Goals as goal

pub bounds-sizes-first : goal.bounds-sizes-first
bounds-sizes-first c =
    let access = c.args.access.now in
    declared-at (length c.args.sizes.now) (access.read ++ access.write) 0 c.in-Some.first (declared-join (length c.args.sizes.now) access.read access.write c.requires.read c.requires.write) (sym c.in-Some.ensures)

pub returns : goal.returns
returns c =
    let access = c.args.access.now in
    let sizes = c.args.sizes.now in
    c.least_in.ensures
    ∙ ap (λ (pools : List ℕ). least_of c.least_in-least.result (sizes_at sizes pools)) c.as_slice-2.ensures
    ∙ ap (λ (n : ℕ). least_of n (sizes_at sizes access.write)) (c.least_in-least.ensures ∙ ap (λ (pools : List ℕ). least_of (get_or sizes c.in-Some.first 0) (sizes_at sizes pools)) c.as_slice.ensures)
    ∙ least-lists sizes access.read access.write c.in-Some.first (sym c.in-Some.ensures)
