use Rattle.std.proofs.Common.{ap}
use Rattle.own_base.specs.Row.{value_size}
use Rattle.commit_check.proofs.weight.item_size.Goals as goal

-- a column that the row doesn't have is NULL
pub returns-in-None : goal.returns-in-None
returns-in-None c = rw c.in-Column.is (ap value_size c.in-None.ensures)
