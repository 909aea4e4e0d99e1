use Rattle.std.proofs.Common.{◌≡◌, ℕ, ◌+◌, ◌-◌, ◌<◌, List, take, drop, length, length-take, arith, sym, ap, ◌∙◌}
use Rattle.std.proofs.lemmas.List.{drop_all}
use Rattle.ecs_io.proofs.Cuts.{front_and_rest}
use Rattle.ecs_io.proofs.quiet_source.QuietSourceSource.read.Goals as goal

pub returns-clause-bytes : goal.returns-clause-bytes
returns-clause-bytes c =
    let at = c.self.inside.at in
    let n = c.min-count.result in
    let bytes = c.self.inside.bytes.items in
    let given = c.copy_from_slice.ensures in
    let some : 0 < length c.args.buf.now = c.requires in
    let long : length c.copy_from_slice.new.self ≡ n = given.len ∙ length-take n c.args.buf.now ∙ omega arith in
    let deref : c.deref.result.now ≡ bytes = c.deref.ensures.value in (
      sym c.self.view_is ∙ front_and_rest bytes _ _ at n (at + n - at) (given.after ∙ ap (λ (xs : List ℕ). take (at + n - at) (drop at xs)) deref) (omega arith) long,
      λ none _. drop_all (at + n) bytes (omega arith),
    )
