use Rattle.std.proofs.Common.{◌≡◌, ◌<◌, [], length, arith}
use Rattle.std.proofs.lemmas.List.{nil_from_length}
use Rattle.std.proofs.lemmas.Bool.Decides.{nat_tests}
use Rattle.own_model.specs.Stored.{rows_at}
use Rattle.txn_space.proofs.RunsLeft.{run_taken, run_within}
use Rattle.txn_space.proofs.base_rows.Walk.refill.Goals as goal

-- The run ends within the table, whose rows are counted.
pub overflow_add-self : goal.overflow_add-self
overflow_add-self g c =
    let run = c.rows_from-self.ensures in
    let rows = rows_at (g.V.StoreView.db c.args.self.now.base.now).rows c.args.self.now.table.0 in
    let counted : c.args.self.now.count ≡ length rows = c.args.self.now.counted in
    let before : c.args.self.now.behind < length rows = omega arith in
    let within = run_within c.args.self.now.behind rows c.rows_from-self.result.now run.rest run.follow before in
    omega arith

-- This run has come to its end, and the next one is the front of what stands behind it.
pub returns-then-self-clause-same : goal.returns-then-self-clause-same
returns-then-self-clause-same g c =
    let run = c.rows_from-self.ensures in
    let none : c.args.self.now.run.now ≡ [] = nil_from_length c.args.self.now.run.now (grind (arith, nat_tests)) in
    rw none (run_taken c.args.self.now.behind (rows_at (g.V.StoreView.db c.args.self.now.base.now).rows c.args.self.now.table.0) c.rows_from-self.result.now run.rest run.follow)
