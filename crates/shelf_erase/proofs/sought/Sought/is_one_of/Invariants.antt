use Rattle.std.proofs.Common.{◌≡◌, drop}
use Rattle.std.specs.List.{list_any}
use Rattle.shelf_erase.specs.Sought.{passes}
use Rattle.shelf_erase.proofs.sought.Sought.is_one_of.Given as goal

-- none is found so far, and so it is among those that are left if there is any
abbrev pub invariant-loop-upper : goal.invariant-loop-upper
invariant-loop-upper g l =
    let test = passes l.self (g.V.StoreView.db l.view) l.subject.0 l.removals in
    list_any test (drop l.upper-index l.uppers) ≡ list_any test l.uppers
