use Rattle.std.proofs.Common.{◌≡◌, ℕ, Bool, drop, not}
use Rattle.std.specs.Prelude.{◌&&◌}
use Rattle.std.specs.List.{enumerate_from, list_any}
use Rattle.own_base.specs.declared.value.Value.{Value}
use Rattle.query_model.specs.Truth.{is_null}
use Rattle.subject_erase.specs.Losing.{loses_by}
use Rattle.subject_erase.proofs.losing.loses_some.Given as goal

-- none is found so far, and so it is among those that are left if there is any
abbrev pub invariant-loop-number : goal.invariant-loop-number
invariant-loop-number g l =
    let lost : ℕ × Value → Bool = λ numbered. loses_by (g.V.StoreView.db l.view).schema (g.V.StoreView.db l.view).rows l.staying l.definition l.ruled numbered && not (is_null numbered.1) in
    list_any lost (enumerate_from l.number (drop l.number l.row)) ≡ list_any lost (enumerate_from 0 l.row)
