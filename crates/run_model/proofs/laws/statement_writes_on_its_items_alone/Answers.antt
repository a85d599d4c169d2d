use Rattle.run_model.proofs.StatementFootprints.{still-run}
use Rattle.run_model.proofs.TableRows.{in_place}
use Rattle.run_model.proofs.laws.statement_writes_on_its_items_alone.Goals as goal

pub returns : goal.returns
returns c db statement kept takes item apart = still-run db statement takes (in_place db kept) item apart
