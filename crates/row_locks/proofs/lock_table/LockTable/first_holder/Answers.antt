use Rattle.std.proofs.Common.{sym, ◌∙◌}
use Rattle.row_locks.specs.SessionItems.{items_by}
use Rattle.row_locks.proofs.Searched.{none_here, none_told, search-all, search-next, told_first}
use Rattle.row_locks.proofs.lock_table.LockTable.first_holder.Goals as goal

pub loop-number-init : goal.loop-number-init
loop-number-init c = search-all (items_by c.args.self.now) c.args.session.0 c.args.footprint.now

pub loop-number-preserved : goal.loop-number-preserved
loop-number-preserved c =
    c.loop-number.invariant
    ∙ search-next (items_by c.args.self.now) c.args.session.0 c.args.footprint.now c.loop-number.number c.loop-number-test.true
    (none_here c.args.self.now c.args.session.0 c.args.footprint.now c.loop-number.number c.holding_of_other-found.result c.holding_of_other-found.ensures (sym c.is_some.ensures ∙ c.if-is_some.false))

pub returns-then-is_some : goal.returns-then-is_some
returns-then-is_some c = λ held are.
    told_first c.args.self.now c.args.session.0 c.args.footprint.now c.loop-number.number c.holding_of_other-found.result c.loop-number-test.true c.loop-number.invariant
    c.holding_of_other-found.ensures (sym c.is_some.ensures ∙ c.if-is_some.true) held are

pub returns : goal.returns
returns c = λ held are. none_told c.args.self.now c.args.session.0 c.args.footprint.now c.loop-number.number c.loop-number-test.false c.loop-number.invariant held are
