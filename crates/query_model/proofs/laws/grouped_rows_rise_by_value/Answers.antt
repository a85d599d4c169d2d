use Rattle.query_model.proofs.GroupValues.{grouped_rows}
use Rattle.query_model.proofs.laws.grouped_rows_rise_by_value.Goals as goal

pub returns : goal.returns
returns c = grouped_rows
