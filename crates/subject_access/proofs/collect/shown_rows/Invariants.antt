use Rattle.subject_access.proofs.ShownLemmas.{ShownTo}
use Rattle.subject_access.proofs.collect.shown_rows.Given as goal

-- the tables so far are shown
abbrev pub invariant-loop-number : goal.invariant-loop-number
invariant-loop-number g l = ShownTo (g.V.StoreView.db l.access.view.now) l.access.subject.now.0 l.number l.shown
