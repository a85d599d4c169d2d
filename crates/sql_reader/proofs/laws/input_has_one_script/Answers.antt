use Rattle.sql_reader.proofs.Scripts.OneScript.{one_script}
use Rattle.sql_reader.proofs.laws.input_has_one_script.Goals as goal

pub returns : goal.returns
returns c = one_script
