use Rattle.std.proofs.Common.{◌/◌, arith, below_more}
use Rattle.sparse_set.proofs.PageLemmas.{kept_itself, kept_on, made_still, first_made}
use Rattle.sparse_set.proofs.pages.Pages.make_below.Goals as goal

pub loop-number-init : goal.loop-number-init
loop-number-init c = record {
  kept = kept_itself c.args.self.now;
  made = λ number below. first_made c.args.self.now c.args.made number c.requires (omega arith);
}

pub loop-number-preserved : goal.loop-number-preserved
loop-number-preserved c = record {
  kept = kept_on _ _ _ c.loop-number.invariant.kept c.in_ok-make.ensures.kept;
  made = below_more _ _ (λ number below. made_still _ _ number c.in_ok-make.ensures.kept (c.loop-number.invariant.made number below)) c.in_ok-make.ensures.ok;
}

pub returns-in_err-make-clause-kept : goal.returns-in_err-make-clause-kept
returns-in_err-make-clause-kept c = kept_on _ _ _ c.loop-number.invariant.kept c.in_err-make.ensures.kept

pub returns-clause-ok : goal.returns-clause-ok
returns-clause-ok c = λ index below. c.loop-number.invariant.made (index / 4096) (omega arith)
