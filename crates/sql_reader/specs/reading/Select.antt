-- The rules of selects, as they are read.
use Rattle.std.specs.Prelude.{ℕ, zero, suc, ◌+◌, Bool, true, false, not, List, [], ◌∷◌, length, Option, None, ◌||◌, ◌&&◌, if◌then◌else◌, codes}
use Rattle.std.specs.List.{list_all}
use Rattle.std.specs.Str.{bytes_eq}
use Rattle.own_model.specs.declared.select.ColRef.{ColRef}
use Rattle.own_model.specs.declared.select.Item.{Item}
use Rattle.own_model.specs.declared.select.Items.{Items}
use Rattle.own_model.specs.declared.select.Items.TheVariants as items
use Rattle.own_model.specs.declared.select.Join.{Join}
use Rattle.own_model.specs.declared.select.Order.{Order}
use Rattle.own_model.specs.declared.select.Select.{Select}
use Rattle.own_model.specs.declared.select.What.{What}
use Rattle.own_model.specs.declared.select.What.TheVariants as what
use Rattle.sql_reader.specs.reading.Condition.{condition}
use Rattle.grammar_model.specs.Parts.{is_there}
use Rattle.sql_reader.specs.reading.Judges.{slot_of}
use Rattle.grammar_model.specs.Limits.{Limits, fits}
use Rattle.sql_reader.specs.reading.Reader.{Reader, ◌>>=◌, ◌>>◌, pure, accept, either, optional}
use Rattle.sql_reader.specs.reading.Rules.{word, mark, name, col, col_after}
use Rattle.grammar_model.specs.Terminal.{is_word, is_mark}

-- COUNT ( * ) after COUNT
unfoldable pub count_after : Reader What
count_after = do
  mark (codes "(")
  mark (codes "*")
  mark (codes ")")
  pure what.Count

-- SUM ( col ) after SUM
unfoldable pub sum_of_after : Limits → Reader What
sum_of_after limits = do
  mark (codes "(")
  column ← col limits
  mark (codes ")")
  pure (what.SumOf column)

-- COUNT and SUM are functions where a bracket comes after them, and names elsewhere
unfoldable pub what_after : Limits → List ℕ → Reader What
what_after limits first =
    if bytes_eq first (codes "count") then either (is_mark (codes "(")) count_after (col_after limits first >>= λ column. pure (what.Column column))
    else (if bytes_eq first (codes "sum") then either (is_mark (codes "(")) (sum_of_after limits) (col_after limits first >>= λ column. pure (what.Column column))
    else (col_after limits first >>= λ column. pure (what.Column column)))

-- [AS name]
unfoldable pub alias : Limits → Reader (Option (List ℕ))
alias limits = optional (is_word (codes "AS")) (word (codes "AS") >> name limits)

-- gitem = (col | COUNT ( * ) | SUM ( col )) [AS name]
unfoldable pub item : Limits → Reader Item
item limits = do
  first ← name limits
  found ← what_after limits first
  called ← alias limits
  pure (record { what = found; alias = called })

-- an item after that many others
unfoldable pub item_after : Limits → ℕ → Reader Item
item_after limits count = if fits limits.items (count + 1) then item limits else accept slot_of

-- {, gitem} after that many others, at most as many times as given
unfoldable pub items_after : ℕ → Limits → ℕ → Reader (List Item)
items_after zero limits count = pure []
items_after (suc times) limits count = either (is_mark (codes ",")) (do
  mark (codes ",")
  next ← item_after limits count
  more ← items_after times limits (count + 1)
  pure (next ∷ more))
    (pure [])

abbrev pub all_items_after : Limits → ℕ → Reader (List Item)
all_items_after limits count terminals = items_after (length terminals) limits count terminals

-- gitem {, gitem}
unfoldable pub listed : Limits → Reader (List Item)
listed limits = do
  first ← item_after limits 0
  others ← all_items_after limits 1
  pure (first ∷ others)

-- * | gitem {, gitem}
unfoldable pub items_rule : Limits → Reader Items
items_rule limits = either (is_mark (codes "*")) (mark (codes "*") >> pure items.Star) (listed limits >>= λ found. pure (items.Listed found))

-- without COUNT and SUM
abbrev pub is_column : Item → Bool
is_column item = is_column_what item.what
  where
    is_column_what : What → Bool
    is_column_what (what.Column column) = true
    is_column_what _ = false

abbrev pub is_plain : Items → Bool
is_plain items.Star = true
is_plain (items.Listed found) = list_all is_column found

abbrev pub is_listed : Items → Bool
is_listed items.Star = false
is_listed (items.Listed found) = true

-- [INNER] JOIN name ON col = col
unfoldable pub join_rule : Limits → Reader Join
join_rule limits = do
  optional (is_word (codes "INNER")) (word (codes "INNER"))
  word (codes "JOIN")
  table ← name limits
  word (codes "ON")
  left ← col limits
  mark (codes "=")
  right ← col limits
  pure (record { table = table; left = left; right = right })

-- only a select without COUNT and SUM has a join
unfoldable pub joined : Limits → Items → Reader (Option Join)
joined limits found =
    if is_plain found then optional (λ terminal. is_word (codes "INNER") terminal || is_word (codes "JOIN") terminal) (join_rule limits) else pure None

-- only a select of listed items and without a join is grouped
unfoldable pub grouped_by : Limits → Items → Option Join → Reader (Option ColRef)
grouped_by limits found join =
    if is_listed found && not (is_there join) then optional (is_word (codes "GROUP")) (word (codes "GROUP") >> word (codes "BY") >> col limits) else pure None

-- [ASC | DESC]
unfoldable pub direction : Reader Bool
direction =
    either (is_word (codes "ASC")) (word (codes "ASC") >> pure false)
    (either (is_word (codes "DESC")) (word (codes "DESC") >> pure true) (pure false))

-- ORDER BY col [ASC | DESC]
unfoldable pub order_rule : Limits → Reader Order
order_rule limits = do
  word (codes "ORDER")
  word (codes "BY")
  column ← col limits
  down ← direction
  pure (record { column = column; down = down })

-- plain | grouped
unfoldable pub query : Limits → ℕ → Reader Select
query limits levels = do
  word (codes "SELECT")
  found ← items_rule limits
  word (codes "FROM")
  from ← name limits
  join ← joined limits found
  cond ← condition limits levels
  group ← grouped_by limits found join
  pure (record { items = found; from = from; join = join; cond = cond; group = group; order = None })

-- [ORDER BY col [ASC | DESC]]
unfoldable pub ordered : Limits → Reader (Option Order)
ordered limits = optional (is_word (codes "ORDER")) (order_rule limits)

-- select = (plain | grouped) [ORDER BY col [ASC | DESC]]
unfoldable pub select : Limits → ℕ → Reader Select
select limits levels = do
  found ← query limits levels
  order ← ordered limits
  pure (record found { order = order })
