use Rattle.write_eval.specs.FirstFaults.{set_nulls, set_ranges}
use Rattle.write_eval.proofs.FirstFaults.{next_faults}
use Rattle.write_eval.proofs.update_fault.FirstFaults.note_row.Goals as goal

-- with the faults of one set more
pub loop-set-preserved : goal.loop-set-preserved
loop-set-preserved c =
    next_faults (set_nulls c.args.table.now c.args.row.now) (set_ranges c.args.table.now c.args.row.now) c.args.sets.now c.loop-set.set-index c.set-item.result
    c.loop-set-test.true c.set-item.is c.args.self.now c.loop-set.self c.note_set.new.self c.loop-set.invariant c.in_ok-note_set.ensures
