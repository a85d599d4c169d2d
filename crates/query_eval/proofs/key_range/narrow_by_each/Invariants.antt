use Rattle.std.proofs.Common.{map}
use Rattle.own_model.specs.Stored.{rows_at}
use Rattle.query_model.specs.Truth.{is_true, least, truth}
use Rattle.query_eval.specs.KeyRange.{NarrowsBy}
use Rattle.query_eval.proofs.key_range.narrow_by_each.Given as goal

-- what is left so far has each row of which the AND is True
abbrev pub invariant-loop-part : goal.invariant-loop-part
invariant-loop-part g l = NarrowsBy l.definition.key.0 (λ row. is_true (least (map (truth row) l.parts))) (rows_at (g.V.StoreView.db l.view).rows l.table.0) l.initial.left l.left
