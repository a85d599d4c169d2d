use Rattle.std.proofs.Common.{◌≡◌, ◌+◌, length, drop}
use Rattle.std.specs.List.{flat_map}
use Rattle.disk_fields.proofs.field.byte_count_of.Given as goal

abbrev pub invariant-loop-item : goal.invariant-loop-item
invariant-loop-item g l = l.count + length (flat_map g.F.Field.spelling (drop l.item-index l.items)) ≡ length (flat_map g.F.Field.spelling l.items)
