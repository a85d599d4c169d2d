use Rattle.std.proofs.Common.{◌∙◌}
use Rattle.row_locks.specs.SessionItems.{has_place_in}
use Rattle.row_locks.proofs.TestLemmas.{all_more}
use Rattle.row_locks.proofs.session_locks.SessionLocks.add_places.Goals as goal

pub loop-item-preserved : goal.loop-item-preserved
loop-item-preserved c = record {
  places =
      all_more c.args.items.now c.loop-item.item-index c.item-item.result c.loop-item-test.true c.item-item.is
      (has_place_in c.loop-item.self.tables.items) (has_place_in c.add_place.new.self.tables.items) c.in_ok-add_place.ensures.places c.loop-item.invariant.places c.in_ok-add_place.ensures.place;
  same = c.in_ok-add_place.ensures.same ∙ c.loop-item.invariant.same;
}
