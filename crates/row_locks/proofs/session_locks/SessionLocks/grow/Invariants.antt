use Rattle.std.proofs.Common.{◌≡◌, ◌-◌, length, true}
use Rattle.own_model.specs.declared.footprint.FootItem.{FootItem}
use Rattle.row_locks.specs.SessionItems.{has_place_in, items_of}
use Rattle.row_locks.proofs.session_locks.SessionLocks.grow.Given as goal

-- nothing more is held, and places stay
abbrev pub invariant-loop-alloc : goal.invariant-loop-alloc
invariant-loop-alloc l = record {
  same : items_of l.self ≡ items_of l.fn.self;
  places : (item : FootItem) → has_place_in l.fn.self.tables.items item ≡ true → has_place_in l.self.tables.items item ≡ true;
}

abbrev pub decreases-loop-alloc : goal.decreases-loop-alloc
decreases-loop-alloc l = l.count - length l.self.tables.items
