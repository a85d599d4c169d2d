use Rattle.std.proofs.Common.{◌≡◌}
use Rattle.std.specs.Prelude.{false}
use Rattle.commit_turn.specs.Passes.{IsPassOf, is_lead, view_of}
use Rattle.turn_tests.proofs.adding.add_all.Given as goal

abbrev pub invariant-loop-call : goal.invariant-loop-call
invariant-loop-call g l = IsPassOf l.turn l.pass × (is_lead l.pass ≡ false) × ((view_of l.pass).session ≡ l.session.0)
