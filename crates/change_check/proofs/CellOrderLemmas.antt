-- The order of cells is total.
use Rattle.std.proofs.Common.{◌≡◌, ℕ, zero, suc, ◌<◌, ap, ◌∙◌, refl, arith}
use Rattle.std.specs.Prelude.{true, false}
use Rattle.std.specs.Cmp.{IsTotalOrder}
use Rattle.std.specs.Ordering.{is_gt, nat_cmp, ordering_reverse, ordering_then}
use Rattle.std.specs.declared.cmp.Ordering.{Ordering}
use Rattle.std.specs.declared.cmp.Ordering.TheVariants.{Less, Equal, Greater}
use Rattle.std.proofs.lemmas.Bool.{lt-ltb}
use Rattle.std.proofs.lemmas.Cmp.{nat_cmp_total, on_total, then_total, tied_itself, upto}
use Rattle.own_base.specs.Key.{key_cmp}
use Rattle.own_base.specs.declared.row_name.RowName.{RowName}
use Rattle.own_base.specs.declared.value.Key.{Key}
use Rattle.own_model.proofs.KeyOrder.{key_order}
use Rattle.subject_model.specs.NameOrder.{name_cmp}
use Rattle.subject_model.proofs.NameOrderLemmas.{key_first}
use Rattle.change_check.specs.declared.cell_name.CellName.{CellName}
use Rattle.change_check.specs.CellOrder.{cell_at, cell_cmp, is_behind}

name_order : IsTotalOrder name_cmp
name_order = then_total (on_total (λ (name : RowName). name.table.0) nat_cmp_total) (on_total (λ (name : RowName). name.key) key_order)

pub cell_order : IsTotalOrder cell_cmp
cell_order = then_total (on_total (λ (cell : CellName). cell.row) name_order) (on_total (λ (cell : CellName). cell.column.0) nat_cmp_total)

greater_is : (o : Ordering) → is_gt o ≡ true → o ≡ Greater
greater_is Less is = let never : false ≡ true = is in cc
greater_is Equal is = let never : false ≡ true = is in cc
greater_is Greater is = refl

-- no cell comes after itself
pub behind_itself : (cell : CellName) → is_behind cell cell ≡ false
behind_itself cell = ap is_gt (tied_itself cell_order cell)

-- of two one alone comes after the other
pub not_behind : (one other : CellName) → is_behind one other ≡ true → is_behind other one ≡ false
not_behind one other is = ap is_gt (cell_order.antisymm other one ∙ ap ordering_reverse (greater_is _ is))

-- one that comes before another does not come after it
pub before_not_behind : (one other : CellName) → cell_cmp one other ≡ Less → is_behind one other ≡ false
before_not_behind one other is = ap is_gt is

-- and the other comes after it
pub behind_before : (one other : CellName) → cell_cmp one other ≡ Less → is_behind other one ≡ true
behind_before one other is = ap is_gt (cell_order.antisymm other one ∙ ap ordering_reverse is)

-- one that isn't behind a cell that isn't behind another isn't behind that
pub not_behind_both : (one two three : CellName) → is_behind one two ≡ false → is_behind two three ≡ false → is_behind one three ≡ false
not_behind_both one two three first second = upto cell_order one two three first second

-- of two cells the one whose row comes first
pub row_before : (one other : CellName) → name_cmp one.row other.row ≡ Less → cell_cmp one other ≡ Less
row_before one other before = ap (λ o. ordering_then o (nat_cmp one.column.0 other.column.0)) before

-- of two cells of one table the one with the lower key
pub key_before : (table column other : ℕ) (key greater : Key) → key_cmp key greater ≡ Less → cell_cmp (cell_at table column key) (cell_at table other greater) ≡ Less
key_before table column other key greater below =
    row_before (cell_at table column key) (cell_at table other greater) (key_first (cell_at table column key).row (cell_at table other greater).row refl below)

-- and of two columns of a row
pub column_before : (table column other : ℕ) (key : Key) → column < other → cell_cmp (cell_at table column key) (cell_at table other key) ≡ Less
column_before table column other key below = rw (tied_itself nat_cmp_total table, tied_itself key_order key, lt-ltb column other below) refl

zero_first : (n : ℕ) → is_gt (nat_cmp 0 n) ≡ false
zero_first zero = ap is_gt (tied_itself nat_cmp_total 0)
zero_first (suc n) = rw (lt-ltb 0 (suc n) (omega arith)) refl

-- the first cell of a row comes after no cell of the row
pub first_not_behind : (cell : CellName) → is_behind (cell_at cell.row.table.0 0 cell.row.key) cell ≡ false
first_not_behind cell = rw (tied_itself name_order cell.row) (zero_first cell.column.0)
