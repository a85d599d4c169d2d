use Rattle.std.proofs.lemmas.List.Sums.{fold-append}
use Rattle.bind_select.proofs.Names.{repeated_here}
use Rattle.bind_select.proofs.view.note_repeated.Goals as goal

-- this name is noted, and those behind it are left
pub loop-number-preserved : goal.loop-number-preserved
loop-number-preserved c = rw (
  c.loop-number.invariant,
  repeated_here c.args.names.now c.loop-number.number c.index-names-number.result c.loop-number-test.true c.index-names-number.is,
  fold-append,
  ← c.note_repeat.ensures,
)
