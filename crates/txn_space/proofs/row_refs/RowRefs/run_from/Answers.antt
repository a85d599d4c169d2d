use Rattle.std.proofs.Common.{sym}
use Rattle.txn_space.proofs.MergeLemmas.{run_of_none, run_of_one}
use Rattle.txn_space.proofs.row_refs.RowRefs.run_from.Goals as goal

pub returns-in-Some : goal.returns-in-Some
returns-in-Some c = run_of_one c.args.self.now c.from_ref.result.now c.args.place c.in-Some.row.now (sym c.in-Some.ensures) c.from_ref.ensures.value

pub returns-in-None : goal.returns-in-None
returns-in-None c = run_of_none c.args.self.now c.args.place (sym c.in-None.ensures)
