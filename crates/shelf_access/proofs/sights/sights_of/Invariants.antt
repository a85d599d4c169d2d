use Rattle.std.proofs.Common.{◌≡◌, ◌≤◌, ◌-◌, length, take}
use Rattle.std.specs.Prelude.{flat_map}
use Rattle.shelf_model.specs.Seen.{seen}
use Rattle.shelf_access.specs.Sights.{sight_of}
use Rattle.shelf_access.proofs.sights.sights_of.Given as goal

-- the copies of the rows before the place are there
abbrev pub invariant-loop-at : goal.invariant-loop-at
invariant-loop-at g l = record {
  counted : l.count ≡ length (seen (g.V.Shelves.shelved l.view) l.subject.0);
  within : l.at ≤ l.count;
  so_far : l.copies ≡ flat_map (sight_of (g.V.StoreView.db l.view) l.subject.0) (take l.at (seen (g.V.Shelves.shelved l.view) l.subject.0));
}

abbrev pub decreases-loop-at : goal.decreases-loop-at
decreases-loop-at g l = l.count - l.at
