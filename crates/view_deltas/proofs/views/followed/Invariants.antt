use Rattle.state_model.specs.LeadTo.{LeadTo}
use Rattle.view_deltas.specs.Kept.{AreKept}
use Rattle.view_deltas.specs.ViewOf.{HoldNoSums}
use Rattle.view_deltas.proofs.ViewRows.{MadeSoFar}
use Rattle.view_deltas.proofs.views.followed.Given as goal

-- what is made so far is kept for the views so far
abbrev pub invariant-loop-number : goal.invariant-loop-number
invariant-loop-number g l =
    HoldNoSums (g.V.StoreView.db l.before).rows → HoldNoSums (g.N.StoreView.db l.after).rows → LeadTo (g.V.StoreView.db l.before) (g.N.StoreView.db l.after) l.changes
    → AreKept (g.V.StoreView.db l.before) l.definitions l.kept → MadeSoFar (g.N.StoreView.db l.after) l.definitions l.number l.made.items
