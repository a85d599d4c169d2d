-- Values, rows and items of a view take no more after a FORGET.
use Rattle.std.proofs.Common.{◌≡◌, ℕ, zero, suc, ◌+◌, ◌-◌, ◌*◌, subst, ◌≤◌, List, [], ◌∷◌, map, Bool, true, false, refl, arith}
use Rattle.std.specs.Prelude.{◌==◌, sum_by, if◌then◌else◌}
use Rattle.std.specs.List.{enumerate_from}
use Rattle.std.proofs.lemmas.Bool.Decides.{nat_tests}
use Rattle.std.proofs.lemmas.List.Sums.{sum_by-cons}
use Rattle.std.proofs.Math.Nat.{mul-add, mul-le-mul_right}
use Rattle.own_base.specs.Row.{row_size, value_size}
use Rattle.own_base.specs.declared.row.TheConstants.{ROW_SIZE}
use Rattle.own_base.specs.declared.row_name.RowName.{RowName}
use Rattle.own_base.specs.declared.value.Value.{Value}
use Rattle.own_base.specs.declared.value.Value.TheVariants.{Null, Int, Text, Sum}
use Rattle.own_model.specs.declared.bound.BoundItem.{BoundItem}
use Rattle.own_model.specs.declared.bound.BoundItem.TheVariants.{Column, Count, SumOf}
use Rattle.own_model.specs.declared.schema.TableDef.{TableDef}
use Rattle.own_model.specs.Db.{Db, Row}
use Rattle.query_model.specs.Truth.{cell}
use Rattle.subject_model.specs.Forget.{left_of, loses}
use Rattle.subject_model.specs.Named.{NamedRow}
use Rattle.state_model.specs.Weight.{at_least_one, item_size}

-- a value or NULL
abbrev pub or_null : Bool → Value → Value
or_null lost value = if lost then Null else value

-- NULL takes the least
null_least : (value : Value) → value_size Null ≤ value_size value
null_least Null = omega arith
null_least (Int number) = omega arith
null_least (Text bytes) = omega arith
null_least (Sum number) = omega arith

size-or_null : (lost : Bool) (value : Value) → value_size (or_null lost value) ≤ value_size value
size-or_null true value = null_least value
size-or_null false value = omega arith

-- a row some of whose values are lost
abbrev pub without : (ℕ × Value → Bool) → ℕ → Row → Row
without lost number row = map (λ numbered. or_null (lost numbered) numbered.1) (enumerate_from number row)

size-without : (lost : ℕ × Value → Bool) (number : ℕ) (row : Row) → sum_by value_size (without lost number row) ≤ sum_by value_size row
size-without lost number [] = omega arith
size-without lost number (value ∷ row) =
    let long = sum_by-cons value_size (or_null (lost (number, value)) value) (without lost (number + 1) row) in
    let short = sum_by-cons value_size value row in
    let own = size-or_null (lost (number, value)) value in
    let later = size-without lost (number + 1) row in
    omega arith

-- a cell of it is no greater
cell-without : (lost : ℕ × Value → Bool) (number : ℕ) (row : Row) (column : ℕ) → value_size (cell (without lost number row) column) ≤ value_size (cell row column)
cell-without lost number [] column = omega arith
cell-without lost number (value ∷ row) zero = size-or_null (lost (number, value)) value
cell-without lost number (value ∷ row) (suc column) = cell-without lost (number + 1) row column

-- a row that is left takes no more than before, and at least what a row without columns takes
pub size-left_of : (db : Db) (subject : RowName) (table : TableDef) (named : NamedRow) → row_size (left_of db subject table named) ≤ row_size named.row
size-left_of db subject table named = let values = size-without (loses db subject table named.name) 0 named.row in omega arith

pub size-at_least : (row : Row) → 64 ≤ row_size row
size-at_least row = omega arith

-- what an item of a view shows of it takes no more
item-left_of : (db : Db) (subject : RowName) (table : TableDef) (named : NamedRow) (item : BoundItem) → item_size (left_of db subject table named) item ≤ item_size named.row item
item-left_of db subject table named (Column column) = cell-without (loses db subject table named.name) 0 named.row column.0
item-left_of db subject table named Count = omega arith
item-left_of db subject table named (SumOf column) = omega arith

items-left_of : (db : Db) (subject : RowName) (table : TableDef) (named : NamedRow) (items : List BoundItem)
    → sum_by (item_size (left_of db subject table named)) items ≤ sum_by (item_size named.row) items
items-left_of db subject table named [] = omega arith
items-left_of db subject table named (item ∷ items) =
    let left = left_of db subject table named in
    let long = sum_by-cons (item_size left) item items in
    let short = sum_by-cons (item_size named.row) item items in
    let own = item-left_of db subject table named item in
    let later = items-left_of db subject table named items in
    omega arith

-- a row of a view's items
abbrev pub viewed_size : List BoundItem → Row → ℕ
viewed_size items row = ROW_SIZE + sum_by (item_size row) items

pub viewed-left_of : (db : Db) (subject : RowName) (table : TableDef) (named : NamedRow) (items : List BoundItem)
    → viewed_size items (left_of db subject table named) ≤ viewed_size items named.row
viewed-left_of db subject table named items = let each = items-left_of db subject table named items in omega arith

-- each owner that is lost may have become one who sees the row, which costs no more
loss_step : (size before owners more seers saw : ℕ) → 64 ≤ size → size ≤ before → owners + seers ≤ owners + more + saw
    → size * owners + 64 * seers ≤ before * (owners + more) + 64 * saw
loss_step size before owners more seers saw least falls fewer =
    let whole = mul-add size owners more in
    let heavier : size * (owners + more) ≤ before * (owners + more) = mul-le-mul_right (owners + more) falls in
    let each : 64 * more ≤ size * more = mul-le-mul_right more least in
    omega arith

at_least_one-suc : (count : ℕ) → at_least_one (suc count) ≡ suc count
at_least_one-suc count = let some : (suc count == 0) ≡ false = grind (arith, nat_tests) in rw some refl

-- A row's weight falls with its size, with its owners, and with the subjects that reach it, while it keeps an owner or had none.
pub weighs-less : (size before owners had seers saw : ℕ) → 64 ≤ size → size ≤ before → owners ≤ had → owners + seers ≤ had + saw → (owners ≡ 0 → had ≡ 0)
    → size * at_least_one owners + 64 * seers ≤ before * at_least_one had + 64 * saw
weighs-less size before zero zero seers saw least falls fewer reached none = omega arith
weighs-less size before zero (suc had) seers saw least falls fewer reached none = let never = none refl in omega arith
weighs-less size before (suc owners) zero seers saw least falls fewer reached none = absurd (omega arith)
weighs-less size before (suc owners) (suc had) seers saw least falls fewer reached none =
    let more : ℕ = had - owners in
    let whole : suc owners + more ≡ suc had = omega arith in
    rw (at_least_one-suc owners, at_least_one-suc had)
    (subst (λ n. size * suc owners + 64 * seers ≤ before * n + 64 * saw) whole (loss_step size before (suc owners) more seers saw least falls (omega arith)))
