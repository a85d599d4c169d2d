use Rattle.std.proofs.Common.{take}
use Rattle.view_deltas.specs.Joined.{named, PutsPairs}
use Rattle.view_deltas.specs.Sides.{shown_both}
use Rattle.view_deltas.proofs.joined_side.Entries+Row.put_pairs.Given as goal

-- the pairs with the keys so far are put
abbrev pub invariant-loop-other : goal.invariant-loop-other
invariant-loop-other g l =
    PutsPairs l.on.side l.key (take l.other-index l.others) (λ other. shown_both l.query l.on.side l.row (named (g.V.StoreView.db l.view) l.on.other other)) l.fn.self l.self
