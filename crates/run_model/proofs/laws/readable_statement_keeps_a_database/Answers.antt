use Rattle.run_model.proofs.KeptRuns.{kept-run}
use Rattle.run_model.proofs.laws.readable_statement_keeps_a_database.Goals as goal

pub returns : goal.returns
returns c db statement kept readable = kept-run db kept statement readable
