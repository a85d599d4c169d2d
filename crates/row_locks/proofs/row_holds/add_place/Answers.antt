use Rattle.std.proofs.Common.{sym, ◌∙◌, rules}
use Rattle.row_locks.proofs.RowLemmas.{placed}
use Rattle.row_locks.proofs.row_holds.add_place.Goals as goal

pub returns-in_ok-insert-clause-places : goal.returns-in_ok-insert-clause-places
returns-in_ok-insert-clause-places c =
    (placed c.args.rows.now.entries c.insert.new.self.entries c.args.key.now c.in_ok-key.key c.in_ok-key.ensures (sym c.contains_key.ensures ∙ search rules) c.in_ok-insert.ensures.entries c.in_ok-insert.ensures.updates.0).places

pub returns-in_ok-insert-clause-same : goal.returns-in_ok-insert-clause-same
returns-in_ok-insert-clause-same c =
    (placed c.args.rows.now.entries c.insert.new.self.entries c.args.key.now c.in_ok-key.key c.in_ok-key.ensures (sym c.contains_key.ensures ∙ search rules) c.in_ok-insert.ensures.entries c.in_ok-insert.ensures.updates.0).same

pub returns-in_ok-insert-clause-meet : goal.returns-in_ok-insert-clause-meet
returns-in_ok-insert-clause-meet c =
    (placed c.args.rows.now.entries c.insert.new.self.entries c.args.key.now c.in_ok-key.key c.in_ok-key.ensures (sym c.contains_key.ensures ∙ search rules) c.in_ok-insert.ensures.entries c.in_ok-insert.ensures.updates.0).meet
