-- The order of names.
use Rattle.std.specs.Ordering.{nat_cmp, ordering_then}
use Rattle.std.specs.declared.cmp.Ordering.{Ordering}
use Rattle.own_base.specs.Key.{key_cmp}
use Rattle.own_base.specs.declared.row_name.RowName.{RowName}

-- by table, then by key
abbrev pub name_cmp : RowName → RowName → Ordering
name_cmp one other = ordering_then (nat_cmp one.table.0 other.table.0) (key_cmp one.key other.key)
