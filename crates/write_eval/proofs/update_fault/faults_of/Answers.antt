use Rattle.std.proofs.Common.{◌≡◌, Bor, take}
use Rattle.std.proofs.lemmas.List.{take_all}
use Rattle.own_model.specs.Db.{Row}
use Rattle.run_model.specs.Update.{null_faults, range_faults}
use Rattle.write_eval.proofs.FirstFaults.{flat_map-lent}
use Rattle.write_eval.proofs.update_fault.faults_of.Goals as goal

-- all rows are gone through
pub returns : goal.returns
returns c =
    let whole : take c.loop-row.row-index c.args.rows.now ≡ c.args.rows.now = take_all c.loop-row.row-index c.args.rows.now c.loop-row-test.false in
    rw (flat_map-lent (λ (row : Bor Row). row.now) (null_faults c.args.table.now c.args.sets.now), flat_map-lent (λ (row : Bor Row). row.now) (range_faults c.args.table.now c.args.sets.now))
    (rw whole at c.loop-row.invariant)
