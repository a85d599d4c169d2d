use Rattle.std.proofs.Common.{◌≡◌, take}
use Rattle.run_model.specs.Update.{null_faults, range_faults}
use Rattle.write_eval.specs.FirstFaults.{with_faults}
use Rattle.write_eval.proofs.update_fault.FirstFaults.note_row.Given as goal

-- with the faults of the sets so far
abbrev pub invariant-loop-set : goal.invariant-loop-set
invariant-loop-set l =
    l.self ≡ with_faults l.initial.self (null_faults l.table (take l.set-index l.sets) l.row) (range_faults l.table (take l.set-index l.sets) l.row)
