use Rattle.std.proofs.Common.{◌∙◌, arith}
use Rattle.row_locks.proofs.HeldTables.{items_set, places_set}
use Rattle.row_locks.proofs.session_locks.SessionLocks.add_place.Goals as goal

pub returns-clause-same : goal.returns-clause-same
returns-clause-same c =
    items_set c.grow.new.self.tables.items c.args.item.now c.index_mut.result.now c.add_place.new.self (omega (arith, c.in_ok-grow.ensures.enough)) c.index_mut.ensures.value c.add_place.ensures.same
    ∙ c.in_ok-grow.ensures.same

pub returns-clause-places : goal.returns-clause-places
returns-clause-places c = λ other there.
    places_set c.grow.new.self.tables.items c.args.item.now c.index_mut.result.now c.add_place.new.self (omega (arith, c.in_ok-grow.ensures.enough)) c.index_mut.ensures.value c.add_place.ensures.places
    other (c.in_ok-grow.ensures.places other there)
