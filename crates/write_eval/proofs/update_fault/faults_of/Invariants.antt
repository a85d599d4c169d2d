use Rattle.std.proofs.Common.{◌≡◌, take}
use Rattle.std.specs.List.{flat_map}
use Rattle.run_model.specs.Update.{null_faults, range_faults}
use Rattle.write_eval.specs.FirstFaults.{none_yet, with_faults}
use Rattle.write_eval.proofs.update_fault.faults_of.Given as goal

-- the faults of the rows so far
abbrev pub invariant-loop-row : goal.invariant-loop-row
invariant-loop-row l =
    l.faults ≡ with_faults none_yet (flat_map (λ row. null_faults l.table l.sets row.now) (take l.row-index l.rows))
    (flat_map (λ row. range_faults l.table l.sets row.now) (take l.row-index l.rows))
