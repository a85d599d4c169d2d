-- A number, and the row of a table that it meets.
use Rattle.std.specs.Prelude.{◌≡◌, ℕ, List}
use Rattle.std.specs.Option.{option_copied, option_to_list}
use Rattle.own_base.specs.declared.value.Value.TheVariants.{Int}
use Rattle.own_model.specs.Db.{Row}
use Rattle.query_eval.specs.Meetings.{meeting}
use Rattle.query_eval.specs.declared.in_key_order.Met.{Met}

-- the row that is told is the one that has the number in a column
abbrev pub IsMet : ℕ → List Row → Met → Type 0
IsMet column rows met = option_to_list (option_copied met.row) ≡ meeting (Int met.number) column rows
