use Rattle.run_model.proofs.StatementFootprints.{same_left-run, same_reply-run}
use Rattle.run_model.proofs.TableRows.{in_place}
use Rattle.run_model.proofs.laws.statement_depends_on_its_items_alone.Goals as goal

pub returns-clause-reply : goal.returns-clause-reply
returns-clause-reply c db other statement kept others takes agree = same_reply-run db other (in_place db kept) (in_place other others) statement takes agree

pub returns-clause-left : goal.returns-clause-left
returns-clause-left c db other statement kept others takes agree = same_left-run db other (in_place db kept) (in_place other others) statement takes agree
