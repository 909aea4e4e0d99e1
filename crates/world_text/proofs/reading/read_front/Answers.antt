use Rattle.std.proofs.Common.{◌≡◌, ◌≢◌, Err, ◌∷◌, length, length-append, arith, rules, ap, ◌∙◌}
use Rattle.world_text.specs.declared.section.Section.TheVariants as section
use Rattle.world_text.specs.Formats.{version_1}
use Rattle.world_text.specs.Lines.{line_text}
use Rattle.world_text.proofs.LawfulLemmas.{front_is_lawful, version_1_is_format}
use Rattle.world_text.proofs.ReadingLemmas.{read_more, bad_next, front_read}
use Rattle.world_text.proofs.reading.read_front.Goals as goal

pub loop-alloc-preserved : goal.loop-alloc-preserved
loop-alloc-preserved c =
    let t = c.in-Ok.ensures.ok in
    record {
      read = read_more _ _ _ _ _ _ _ c.loop-alloc.invariant.read t;
      few = omega (arith, ap length t.spelled ∙ length-append (line_text c.loop-alloc.draft.format t.line) (10 ∷ c.in-Ok.after.now));
    }

pub returns-in-Err-Bad-clause-cause : goal.returns-in-Err-Bad-clause-cause
returns-in-Err-Bad-clause-cause c =
    let unfinished : c.loop-alloc.draft.section ≢ section.End = search rules in
    bad_next version_1 c.args.bytes.now c.loop-alloc.draft c.loop-alloc.lines c.loop-alloc.rest.now c.loop-alloc.invariant.read (c.in-Err-Bad.ensures.bad (ap Err c.in-Err-Bad.field-0-is)) unfinished

pub returns-clause-lawful : goal.returns-clause-lawful
returns-clause-lawful c =
    let ended : c.loop-alloc.draft.section ≡ section.End = search rules in
    front_is_lawful version_1 c.args.bytes.now c.finished-document.result c.loop-alloc.lines c.loop-alloc.rest.now version_1_is_format
    (front_read version_1 c.args.bytes.now c.loop-alloc.draft c.loop-alloc.lines c.loop-alloc.rest.now c.finished-document.result c.loop-alloc.invariant.read ended c.finished-document.ensures)
