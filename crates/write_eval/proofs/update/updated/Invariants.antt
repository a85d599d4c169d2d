use Rattle.std.proofs.Common.{◌≡◌, ◌++◌, drop, map}
use Rattle.std.specs.List.{enumerate_from}
use Rattle.run_model.specs.Update.{set_value}
use Rattle.write_eval.proofs.update.updated.Given as goal

-- the values so far, and those that are left
abbrev pub invariant-loop-number : goal.invariant-loop-number
invariant-loop-number l =
    l.values ++ map (set_value l.sets l.row) (enumerate_from l.number (drop l.number l.row)) ≡ map (set_value l.sets l.row) (enumerate_from 0 l.row)
