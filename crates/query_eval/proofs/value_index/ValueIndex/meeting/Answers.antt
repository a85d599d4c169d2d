use Rattle.std.proofs.Common.{[], List, Option, sym, ap, ◌∙◌, unwrap_or}
use Rattle.own_model.specs.Db.{Row}
use Rattle.query_eval.proofs.MeetingRows.{found-meeting, null-meeting}
use Rattle.query_eval.proofs.value_index.ValueIndex.meeting.Goals as goal

pub returns-then-is_null : goal.returns-then-is_null
returns-then-is_null c = λ rows is.
    rw (← c.new-value.ensures) (null-meeting c.new-value.result c.args.self.now.column.0 rows (sym c.if-is_null.ensures))

pub returns : goal.returns
returns c = λ rows is.
    rw (← c.new-value.ensures)
    (ap (λ (found : Option (List Row)). unwrap_or found []) c.get.ensures.value
    ∙ found-meeting c.new-value.result c.args.self.now.column.0 rows c.args.self.now.rows.entries is (sym c.if-is_null.ensures))
