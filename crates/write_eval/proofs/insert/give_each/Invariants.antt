use Rattle.std.proofs.Common.{◌≡◌, [], fold, take}
use Rattle.std.specs.Prelude.{Ok}
use Rattle.write_eval.specs.Insertions.{and_given}
use Rattle.write_eval.proofs.insert.give_each.Given as goal

-- the tuples so far, of which no key was taken
abbrev pub invariant-loop-tuple : goal.invariant-loop-tuple
invariant-loop-tuple g l =
    Ok l.given.entries ≡ fold (and_given (g.V.StoreView.db l.view).schema (g.V.StoreView.db l.view).rows l.number l.table) (Ok []) (take l.tuple-index l.tuples)
