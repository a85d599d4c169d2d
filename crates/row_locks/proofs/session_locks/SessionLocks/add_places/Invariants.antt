use Rattle.std.proofs.Common.{◌≡◌, take, true}
use Rattle.std.specs.List.{list_all}
use Rattle.row_locks.specs.SessionItems.{has_place_in, items_of}
use Rattle.row_locks.proofs.session_locks.SessionLocks.add_places.Given as goal

-- those so far have places, and nothing more is held
abbrev pub invariant-loop-item : goal.invariant-loop-item
invariant-loop-item l = record {
  places : list_all (has_place_in l.self.tables.items) (take l.item-index l.items) ≡ true;
  same : items_of l.self ≡ items_of l.fn.self;
}
