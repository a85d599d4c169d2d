-- The first item of a list that passes, with its number.
use Rattle.std.proofs.Common.{◌≡◌, ℕ, zero, suc, ◌+◌, ◌<◌, ◌≤◌, Bool, List, [], ◌∷◌, Some, length, get_or, drop, cond, arith, add-one, drop-cons, subst, sym}
use Rattle.std.specs.List.{AllByRecursion, enumerate_from, find}
use Rattle.own_model.specs.declared.limit.TheConstants.{SELECT_ITEMS, TABLE_COLUMNS}
use Rattle.own_model.specs.declared.schema.Schema.{Schema}
use Rattle.own_model.specs.declared.schema.TableDef.{TableDef}
use Rattle.own_model.specs.declared.schema.ViewDef.{ViewDef}
use Rattle.schema_model.specs.WithinLimits.{IsWithinLimits}
use Rattle.query_model.specs.WithinLimits.{AreViewsWithin}

-- what is left from this number on
pub drop_here : {A : Type 0} (xs : List A) (i : ℕ) (x : A) → i < length xs → x ≡ get_or xs i x → drop i xs ≡ x ∷ drop (i + 1) xs
drop_here xs i x within is = rw (add-one, drop-cons xs i x within, ← is)

-- it is the one of this number, or it is among those behind it
pub find_here : {A : Type 0} (test : ℕ × A → Bool) (xs : List A) (i : ℕ) (x : A) → i < length xs → x ≡ get_or xs i x
    → find test (enumerate_from i (drop i xs)) ≡ cond (test (i, x)) (Some (i, x)) (find test (enumerate_from (i + 1) (drop (i + 1) xs)))
find_here test xs i x within is = rw (drop_here xs i x within is)

-- what holds of all holds of the one of this number
pub all_at : {A : Type 0} (P : A → Type 0) (xs : List A) (i : ℕ) (x : A) → AllByRecursion P xs → i < length xs → x ≡ get_or xs i x → P x
all_at P [] i x each within is = absurd (omega arith)
all_at P (y ∷ ys) zero x each within is = subst P (sym is) each.0
all_at P (y ∷ ys) (suc i) x each within is = all_at P ys i x each.1 (omega arith) is

-- a table has no more columns than it may have
pub table_within : (schema : Schema) (i : ℕ) (x : TableDef) → IsWithinLimits schema → i < length schema.tables → x ≡ get_or schema.tables i x
    → length x.columns ≤ TABLE_COLUMNS
table_within schema i x limits within is = (all_at _ schema.tables i x limits.each within is).columns

-- and so has a view
pub view_within : (schema : Schema) (i : ℕ) (x : ViewDef) → AreViewsWithin schema → i < length schema.views → x ≡ get_or schema.views i x
    → length x.names ≤ SELECT_ITEMS
view_within schema i x limits within is = all_at _ schema.views i x limits.each within is

-- a loop that returns the first item that passes, with its number
pub ruleset lookups = (find_here, table_within, view_within)
