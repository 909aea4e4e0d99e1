use Rattle.row_lang.proofs.IdentifierLemmas.{field_of-entity_in, one_field, same_compares}
use Rattle.row_lang.proofs.meaning_laws.fields_hold_one_identifier.Goals as goal

pub returns-clause-field : goal.returns-clause-field
returns-clause-field c = field_of-entity_in

pub returns-clause-one : goal.returns-clause-one
returns-clause-one c = one_field

pub returns-clause-same : goal.returns-clause-same
returns-clause-same c = same_compares
