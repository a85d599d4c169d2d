use Rattle.run_model.proofs.Refusals.{refused-run}
use Rattle.run_model.proofs.laws.refused_statement_changes_nothing.Goals as goal

pub returns : goal.returns
returns c = refused-run
