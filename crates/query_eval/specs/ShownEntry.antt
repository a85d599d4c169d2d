-- What is shown of a group.
use Rattle.std.specs.Prelude.{List, map}
use Rattle.own_base.specs.declared.value.Value.{Value}
use Rattle.own_model.specs.Db.{Row}
use Rattle.query_eval.specs.declared.item_tally.ItemTally.{ItemTally}
use Rattle.query_eval.specs.Tally.{shown_tally}

-- by its value and what is counted for it
abbrev pub shown_entry : Value × List ItemTally → Row
shown_entry entry = map (shown_tally entry.0) entry.1
