-- What a bound statement may read or write.
use Rattle.std.specs.Prelude.{ℕ, List, [], ◌∷◌, Bool, true, false, ◌==◌, Option, None, Some, filter_map, fold, map, nat_lt, slice_get, if◌then◌else◌}
use Rattle.std.specs.Option.{option_map_or}
use Rattle.std.specs.declared.cmp.Ordering.{Ordering}
use Rattle.std.specs.declared.cmp.Ordering.TheVariants.{Less, Equal, Greater}
use Rattle.own_base.specs.Key.{key_cmp}
use Rattle.own_base.specs.declared.number.TableNo.{TableNo}
use Rattle.own_base.specs.declared.value.Key.{Key}
use Rattle.own_base.specs.declared.value.Key.TheVariants as key
use Rattle.own_base.specs.declared.value.Value.{Value}
use Rattle.own_base.specs.declared.value.Value.TheVariants.{Null, Int, Text, Sum}
use Rattle.own_model.specs.declared.bound.Bound.{Bound}
use Rattle.own_model.specs.declared.bound.Bound.TheVariants.{Delete, Explain, Forget, Get, Insert, Select, Update}
use Rattle.own_model.specs.declared.bound.BoundCond.{BoundCond}
use Rattle.own_model.specs.declared.bound.BoundCond.TheFolds.{fold-BoundCond}
use Rattle.own_model.specs.declared.bound.BoundCond.TheOpen.{BoundCond-F}
use Rattle.own_model.specs.declared.bound.BoundOperand.{BoundOperand}
use Rattle.own_model.specs.declared.bound.BoundOperand.TheVariants.{Literal}
use Rattle.own_model.specs.declared.bound.BoundSelect.{BoundSelect}
use Rattle.own_model.specs.declared.bound.Source1.{Source1}
use Rattle.own_model.specs.declared.bound.Source1.TheVariants as source
use Rattle.own_model.specs.declared.condition.Cmp.{Cmp}
use Rattle.own_model.specs.declared.condition.Cmp.TheVariants.{Eq}
use Rattle.own_model.specs.declared.footprint.FootItem.{FootItem}
use Rattle.own_model.specs.declared.schema.Schema.{Schema}
use Rattle.own_model.specs.Db.{Row, key_of}

-- a literal as a key; NULL is none
abbrev pub literal_key : Value → Option Key
literal_key (Int number) = Some (key.Int number)
literal_key (Text bytes) = Some (key.Text bytes)
literal_key Null = None
literal_key (Sum number) = None

-- the key that a comparison pins where it is `primary key = literal`
abbrev pub compared_key : ℕ → ℕ → Cmp → BoundOperand → Option Key
compared_key key_column column Eq (Literal value) = if column == key_column then literal_key value else None
compared_key key_column column _ _ = None

-- the key that a condition pins by itself, and the one that it pins as the whole of WHERE
pub record Pinned : Type 0 where
  pub alone : Option Key
  pub whole : Option Key

abbrev pub pins_nothing : Pinned
pins_nothing = record { alone = None; whole = None }

-- the first key of these
abbrev pub first_key : List Key → Option Key
first_key [] = None
first_key (first ∷ rest) = Some first

-- one condition, with what its parts pin
abbrev pub pinned_step : ℕ → BoundCond-F Pinned → Pinned
pinned_step key_column (BoundCond-F.Every parts) = record { alone = None; whole = first_key (filter_map (λ part. part.alone) parts) }
pinned_step key_column (BoundCond-F.Some1 parts) = pins_nothing
pinned_step key_column (BoundCond-F.Not part) = pins_nothing
pinned_step key_column (BoundCond-F.Compare column sign right) = record {
  alone = compared_key key_column column.0 sign right;
  whole = compared_key key_column column.0 sign right;
}
pinned_step key_column (BoundCond-F.IsNull column negated) = pins_nothing

-- The key of a condition that is `primary key = literal`, or has it as a direct part of its AND: that of the first such part.
-- An AND in brackets is a list of its own.
unfoldable pub pinned_by : ℕ → BoundCond → Option Key
pinned_by key_column condition = (fold-BoundCond Pinned (pinned_step key_column) condition).whole

abbrev pub pinned_key : ℕ → Option BoundCond → Option Key
pinned_key key_column None = None
pinned_key key_column (Some condition) = pinned_by key_column condition

-- the number of the primary key's column
abbrev pub key_column : Schema → TableNo → ℕ
key_column schema table = option_map_or (λ definition. definition.key.0) (slice_get schema.tables table.0) 0

abbrev pub item : TableNo → Option Key → Bool → FootItem
item table key write = record { table = table; key = key; write = write }

-- one row or the whole table, by the condition
abbrev pub by_condition : Schema → TableNo → Option BoundCond → Bool → List FootItem
by_condition schema table condition write = item table (pinned_key (key_column schema table) condition) write ∷ []

-- two tables, by number
abbrev pub both : TableNo → TableNo → List FootItem
both left right = if nat_lt right.0 left.0 then item right None false ∷ item left None false ∷ [] else item left None false ∷ item right None false ∷ []

-- the tables of a view's source, whole
abbrev pub base_items : Source1 → List FootItem
base_items (source.Table table) = item table None false ∷ []
base_items (source.Pair left right left_column right_column) = both left right
base_items (source.View view) = []

-- by how a key stands to the first of some: before it, in its place, or among the others
abbrev pub at_first : Ordering → Key → Key → List Key → List Key → List Key
at_first Less new first rest further = new ∷ first ∷ rest
at_first Equal new first rest further = first ∷ rest
at_first Greater new first rest further = first ∷ further

-- a key more among keys that rise, if it isn't there
abbrev pub with_key : Key → List Key → List Key
with_key new [] = new ∷ []
with_key new (first ∷ rest) = at_first (key_cmp new first) new first rest (with_key new rest)

-- the keys of rows, rising, each once
abbrev pub keys_of : Schema → TableNo → List Row → List Key
keys_of schema table rows = option_map_or (λ definition. fold (λ keys row. with_key (key_of definition row) keys) [] rows) (slice_get schema.tables table.0) []

-- what a select reads: one row or a table, both tables of a join, or the tables of a view
abbrev pub select_items : Schema → BoundSelect → List FootItem
select_items schema query = by query.source
  where
    by : Source1 → List FootItem
    by (source.Table table) = by_condition schema table query.cond false
    by (source.View view) = option_map_or (λ definition. base_items definition.query.source) (slice_get schema.views view.0) []
    by (source.Pair left right left_column right_column) = both left right

-- The footprint of a bound statement, by table, the whole table before its keys, then by key. Only these four have one.
unfoldable pub footprint_of : Schema → Bound → List FootItem
footprint_of schema (Select query) = select_items schema query
footprint_of schema (Insert table rows) = map (λ key. item table (Some key) true) (keys_of schema table rows)
footprint_of schema (Update table sets condition) = by_condition schema table condition true
footprint_of schema (Delete table condition) = by_condition schema table condition true
footprint_of schema (Get subject) = []
footprint_of schema (Forget subject) = []
footprint_of schema Explain = []
