-- Whether a condition holds of a row: True, False or Unknown.
use Rattle.std.specs.Prelude.{ℕ, List, Bool, true, false, not, Option, None, Some, fold, slice_index_or, if◌then◌else◌}
use Rattle.std.specs.declared.cmp.Ordering.{Ordering}
use Rattle.std.specs.declared.cmp.Ordering.TheVariants.{Less, Equal, Greater}
use Rattle.std.specs.Cmp.Lexicographic.{slice_cmp}
use Rattle.std.specs.Ordering.{int_cmp, nat_cmp}
use Rattle.own_base.specs.declared.value.Value.{Value}
use Rattle.own_base.specs.declared.value.Value.TheVariants.{Null, Int, Text, Sum}
use Rattle.own_model.specs.declared.bound.BoundCond.{BoundCond}
use Rattle.own_model.specs.declared.bound.BoundCond.TheFolds.{fold-BoundCond}
use Rattle.own_model.specs.declared.bound.BoundCond.TheOpen.{BoundCond-F}
use Rattle.own_model.specs.declared.bound.BoundOperand.{BoundOperand}
use Rattle.own_model.specs.declared.bound.BoundOperand.TheVariants.{Column, Literal}
use Rattle.own_model.specs.declared.condition.Cmp.{Cmp}
use Rattle.own_model.specs.declared.condition.Cmp.TheVariants.{Eq, Ne, Lt, Le, Gt, Ge}
use Rattle.own_model.specs.declared.truth.Truth.{Truth}
use Rattle.own_model.specs.declared.truth.Truth.TheVariants.{True, False, Unknown}
use Rattle.own_model.specs.Db.{Row}

-- what stands in a column of a row
abbrev pub cell : Row → ℕ → Value
cell row column = slice_index_or row column Null

-- How two values stand to each other: numbers by value, texts by bytes. NULL stands to nothing, nor does a number to a text.
unfoldable pub compared : Value → Value → Option Ordering
compared (Int left) (Int right) = Some (int_cmp left right)
compared (Int left) (Sum right) = Some (int_cmp left right)
compared (Sum left) (Int right) = Some (int_cmp left right)
compared (Sum left) (Sum right) = Some (int_cmp left right)
compared (Text left) (Text right) = Some (slice_cmp nat_cmp left right)
compared _ _ = None

-- whether a sign takes two values that stand so to each other
abbrev pub takes : Cmp → Ordering → Bool
takes Eq Equal = true
takes Eq _ = false
takes Ne Equal = false
takes Ne _ = true
takes Lt Less = true
takes Lt _ = false
takes Le Greater = false
takes Le _ = true
takes Gt Greater = true
takes Gt _ = false
takes Ge Less = false
takes Ge _ = true

abbrev pub truth_of : Bool → Truth
truth_of true = True
truth_of false = False

-- a comparison; with NULL it is Unknown
abbrev pub comparison : Cmp → Option Ordering → Truth
comparison sign None = Unknown
comparison sign (Some ordering) = truth_of (takes sign ordering)

-- NOT exchanges True and False
abbrev pub negation : Truth → Truth
negation True = False
negation False = True
negation Unknown = Unknown

-- the lesser of two, with False below Unknown below True
abbrev pub lesser : Truth → Truth → Truth
lesser False other = False
lesser True other = other
lesser Unknown False = False
lesser Unknown True = Unknown
lesser Unknown Unknown = Unknown

-- the greater
abbrev pub greater : Truth → Truth → Truth
greater True other = True
greater False other = other
greater Unknown True = True
greater Unknown False = Unknown
greater Unknown Unknown = Unknown

-- AND is the least of its parts, OR the greatest
abbrev pub least : List Truth → Truth
least parts = fold lesser True parts

abbrev pub greatest : List Truth → Truth
greatest parts = fold greater False parts

abbrev pub is_null : Value → Bool
is_null Null = true
is_null _ = false

-- the right side of a comparison
abbrev pub operand : Row → BoundOperand → Value
operand row (Column column) = cell row column.0
operand row (Literal value) = value

-- one condition, with its parts as they hold of the row
abbrev pub truth_step : Row → BoundCond-F Truth → Truth
truth_step row (BoundCond-F.Every parts) = least parts
truth_step row (BoundCond-F.Some1 parts) = greatest parts
truth_step row (BoundCond-F.Not part) = negation part
truth_step row (BoundCond-F.Compare column sign right) = comparison sign (compared (cell row column.0) (operand row right))
truth_step row (BoundCond-F.IsNull column negated) = truth_of (if negated then not (is_null (cell row column.0)) else is_null (cell row column.0))

-- whether a condition holds of a row; of a pair, the row is that of the left table and that of the right one behind it
unfoldable pub truth : Row → BoundCond → Truth
truth row = fold-BoundCond Truth (truth_step row)

abbrev pub is_true : Truth → Bool
is_true True = true
is_true False = false
is_true Unknown = false

-- whether WHERE keeps a row: its condition is True, or there is none
abbrev pub keeps : Option BoundCond → Row → Bool
keeps None row = true
keeps (Some cond) row = is_true (truth row cond)
