use Rattle.std.proofs.Common.{◌≡◌, true, sym, ap, ◌∙◌, subst}
use Rattle.row_locks.specs.SessionItems.{has_place_in, items_from}
use Rattle.row_locks.proofs.HeldTables.{items_more, places_more}
use Rattle.row_locks.proofs.session_locks.SessionLocks.grow.Goals as goal

pub loop-alloc-preserved : goal.loop-alloc-preserved
loop-alloc-preserved c = record {
  same =
      ap (items_from 0) c.in_ok-push.ensures.items
      ∙ (items_more c.new.result 0 c.loop-alloc.self.tables.items c.new.ensures.nothing ∙ c.loop-alloc.invariant.same);
  places = λ item there.
      subst (λ tables. has_place_in tables item ≡ true) (sym c.in_ok-push.ensures.items)
      (places_more c.new.result c.loop-alloc.self.tables.items item (c.loop-alloc.invariant.places item there));
}
