use Rattle.std.proofs.Common.{◌||◌, Bool, ap, ◌∙◌}
use Rattle.std.specs.List.{list_any}
use Rattle.run_model.specs.Agree.{overlaps}
use Rattle.row_locks.specs.SessionItems.{items_of}
use Rattle.row_locks.proofs.TestLemmas.{any_more}
use Rattle.row_locks.proofs.session_locks.SessionLocks.hold_all.Goals as goal

pub loop-item-preserved : goal.loop-item-preserved
loop-item-preserved c = record {
  places = λ other. c.hold.ensures.places other ∙ c.loop-item.invariant.places other;
  more = λ asked.
      c.hold.ensures.more asked
      ∙ (ap (λ (b : Bool). b || overlaps asked c.item-item.result) (c.loop-item.invariant.more asked)
      ∙ any_more c.args.items.now c.loop-item.item-index c.item-item.result c.loop-item-test.true c.item-item.is (overlaps asked) (list_any (overlaps asked) (items_of c.args.self.now)));
}
