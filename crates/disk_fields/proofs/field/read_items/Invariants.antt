use Rattle.std.proofs.Common.{◌≡◌, ◌-◌}
use Rattle.disk_fields.specs.Reading.{items_at}
use Rattle.disk_fields.proofs.Loop.{with_front}
use Rattle.disk_fields.proofs.field.read_items.Given as goal

abbrev pub invariant-loop : goal.invariant-loop
invariant-loop g l = with_front l.items (items_at g.F.Field.reading (l.count - l.counter) l.rest) ≡ items_at g.F.Field.reading l.count l.bytes
