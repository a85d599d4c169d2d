use Rattle.std.proofs.Common.{[], map, sym, ◌∙◌, lit<}
use Rattle.query_eval.specs.Tally.{tally}
use Rattle.query_eval.specs.Tally.{with_row}
use Rattle.query_eval.proofs.KeptByValue.{found-next, new-next}
use Rattle.query_eval.proofs.Tallies.{found-room, tally-push, tally-room}
use Rattle.query_eval.proofs.value_tallies.ValueTallies.add.Goals as goal

-- A value's rows are as few as all.
pub add-requires-clause-room : goal.add-requires-clause-room
add-requires-clause-room c =
    found-room c.args.self.now.items.now c.args.self.now.column.0 c.requires.few.0 c.args.self.now.groups.entries c.new-value.result c.in-Some.group.now c.requires.few.1 c.requires.few.2 c.in-Some.ensures.value

-- A value that is there keeps its key.
pub returns-in-Some-clause-groups : goal.returns-in-Some-clause-groups
returns-in-Some-clause-groups c = λ rows is.
    (c.get_mut.follows.holds c.add.new.self).0
    ∙ found-next (tally c.args.self.now.items.now) c.args.self.now.column.0 rows c.args.self.now.groups.entries is (λ row. map (with_row row)) (tally-push c.args.self.now.items.now) c.args.row.now c.new-value.result c.in-Some.group.now c.add.new.self
    (c.new-value.ensures ∙ c.cell.ensures) c.get_mut.ensures.ordered c.in-Some.ensures.value c.add.ensures

pub add-requires-2-clause-room : goal.add-requires-2-clause-room
add-requires-2-clause-room c = rw c.in_ok-group.ensures (tally-room 1 c.args.self.now.items.now [] (lit< tt))

-- A value that isn't there is put with its own tally.
pub returns-clause-groups : goal.returns-clause-groups
returns-clause-groups c = λ rows is.
    rw (c.in_ok-insert.ensures.entries, c.get_mut.follows.holds-at-none)
    (new-next (tally c.args.self.now.items.now) c.args.self.now.column.0 rows c.args.self.now.groups.entries is (λ row. map (with_row row)) (tally-push c.args.self.now.items.now) c.args.row.now c.new-value.result c.in_ok-group.group c.add-2.new.self
    (c.new-value.ensures ∙ c.cell.ensures) (sym c.in_default.ensures.value) c.in_ok-group.ensures c.add-2.ensures)
