use Rattle.std.proofs.Common.{◌≡◌, ◌++◌, take}
use Rattle.std.specs.Prelude.{flat_map}
use Rattle.shelf_access.specs.Sights.{sight_of}
use Rattle.shelf_access.proofs.sights.add_run.Given as goal

-- the copies of the rows so far are there
abbrev pub invariant-loop-filed : goal.invariant-loop-filed
invariant-loop-filed g l = l.copies ≡ l.fn.copies ++ flat_map (λ filed. sight_of (g.V.StoreView.db l.view) l.subject.0 filed.1) (take l.filed-index l.run)
