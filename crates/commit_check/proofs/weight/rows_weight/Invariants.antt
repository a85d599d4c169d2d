use Rattle.commit_check.proofs.WeightLemmas.{WeighedTo}
use Rattle.commit_check.proofs.weight.rows_weight.Given as goal

-- the tables so far are counted
abbrev pub invariant-loop-number : goal.invariant-loop-number
invariant-loop-number g l = WeighedTo (g.V.StoreView.db l.view) l.number l.total
