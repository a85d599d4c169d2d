use Rattle.std.proofs.Common.{◌≡◌, ◌++◌, drop}
use Rattle.std.specs.List.{AllByRecursion, flat_map}
use Rattle.disk_fields.proofs.field.write_items.Given as goal

abbrev pub invariant-loop-item : goal.invariant-loop-item
invariant-loop-item g l =
    (l.out.items ++ flat_map g.F.Field.spelling (drop l.item-index l.items) ≡ l.fn.out.items ++ flat_map g.F.Field.spelling l.items)
    × AllByRecursion g.F.Field.is_bounded (drop l.item-index l.items)
    × (AllByRecursion g.F.Field.is_typed (drop l.item-index l.items) → AllByRecursion g.F.Field.is_typed l.items)
