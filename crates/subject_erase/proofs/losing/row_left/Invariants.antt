use Rattle.std.proofs.Common.{◌≡◌, ℕ, ◌++◌, drop, map}
use Rattle.std.specs.Prelude.{if◌then◌else◌}
use Rattle.std.specs.List.{enumerate_from}
use Rattle.own_base.specs.declared.value.Value.{Value}
use Rattle.own_base.specs.declared.value.Value.TheVariants.{Null}
use Rattle.subject_erase.specs.Losing.{loses_by}
use Rattle.subject_erase.proofs.losing.row_left.Given as goal

-- the values so far, and those that are left
abbrev pub invariant-loop-number : goal.invariant-loop-number
invariant-loop-number g l =
    let left : ℕ × Value → Value = λ numbered. if loses_by (g.V.StoreView.db l.view).schema (g.V.StoreView.db l.view).rows l.staying l.definition l.ruled numbered then Null else numbered.1 in
    l.values ++ map left (enumerate_from l.number (drop l.number l.row)) ≡ map left (enumerate_from 0 l.row)
