-- The values that a row holds.
use Rattle.std.specs.Prelude.{List}
use Rattle.std.specs.Arc.{arc_value}
use Rattle.own_base.specs.declared.value.Value.{Value}
use Rattle.own_base.specs.declared.row_values.RowValues.{RowValues}
use Rattle.own_base.specs.declared.row_values.RowValues.TheVariants.{Alone, Two, Three, Four, Shared}

-- the same list, held alone or shared, in one piece or in two
abbrev pub values_of : RowValues → List Value
values_of (Alone values) = values
values_of (Two shared) = arc_value shared
values_of (Three shared) = arc_value shared
values_of (Four shared) = arc_value shared
values_of (Shared shared) = arc_value shared
