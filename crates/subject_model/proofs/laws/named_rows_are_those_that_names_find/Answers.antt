use Rattle.subject_model.proofs.NameOrderLemmas.{named_rows_rise}
use Rattle.subject_model.proofs.NamedLemmas.{named_rows-iff_found}
use Rattle.subject_model.proofs.laws.named_rows_are_those_that_names_find.Goals as goal

pub returns : goal.returns
returns c = record { found = named_rows-iff_found; in_order = named_rows_rise }
