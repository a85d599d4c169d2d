use Rattle.std.proofs.Common.{◌≡◌, ◌||◌, take}
use Rattle.std.specs.List.{list_any}
use Rattle.own_model.specs.declared.footprint.FootItem.{FootItem}
use Rattle.run_model.specs.Agree.{overlaps}
use Rattle.row_locks.specs.SessionItems.{has_place_in, items_of}
use Rattle.row_locks.proofs.session_locks.SessionLocks.hold_all.Given as goal

-- those so far are held
abbrev pub invariant-loop-item : goal.invariant-loop-item
invariant-loop-item l = record {
  places : (other : FootItem) → has_place_in l.self.tables.items other ≡ has_place_in l.fn.self.tables.items other;
  more : (asked : FootItem) → list_any (overlaps asked) (items_of l.self) ≡ (list_any (overlaps asked) (items_of l.fn.self) || list_any (overlaps asked) (take l.item-index l.items));
}
