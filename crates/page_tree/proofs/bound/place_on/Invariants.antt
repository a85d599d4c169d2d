use Rattle.std.proofs.Common.{◌≡◌, ◌-◌, ◌≤◌, length, take, drop}
use Rattle.std.specs.Prelude.{true, false}
use Rattle.std.specs.List.{AllByRecursion as Each}
use Rattle.page_tree.proofs.bound.place_on.Given as goal

-- all before the one place are below the bound, and none from the other on
abbrev pub invariant-halves : goal.invariant-halves
invariant-halves g l =
    record {
      within : l.from ≤ l.upto;
      end : l.upto ≤ length l.items;
      before : Each (λ item. g.B.BoundOf.below l.bound l.by item ≡ true) (take l.from l.items);
      behind : Each (λ item. g.B.BoundOf.below l.bound l.by item ≡ false) (drop l.upto l.items);
    }

abbrev pub decreases-halves : goal.decreases-halves
decreases-halves g l = l.upto - l.from
