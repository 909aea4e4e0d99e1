use Rattle.entity_id.proofs.ListLemmas.{all_weaker}
use Rattle.world_model.specs.Components.{IsDecl}
use Rattle.row_lang.specs.Naming.{IsNamedDecl}
use Rattle.row_lang.proofs.CheckedLemmas.{checked_system}
use Rattle.system_eval.proofs.laws.systems_of_lines_may_run.Goals as goal

pub returns : goal.returns
returns c = λ decls system named lines. record {
  decls = decls;
  declared = all_weaker IsNamedDecl IsDecl (λ decl is. is.fields) decls named.each;
  checked = checked_system decls system lines;
}
