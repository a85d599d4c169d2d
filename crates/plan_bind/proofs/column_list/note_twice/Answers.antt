use Rattle.plan_bind.proofs.Twice.{twice_here, twice_once}
use Rattle.plan_bind.proofs.column_list.note_twice.Goals as goal

-- this name stands before too: those behind it change nothing
pub returns-then-is_among : goal.returns-then-is_among
returns-then-is_among c = rw (
  c.loop-number.invariant,
  twice_here c.args.names.now c.loop-number.number c.index-names-number.result c.loop-number-test.true c.index-names-number.is,
  ← c.is_among.ensures,
  c.if-is_among.true,
  c.note.ensures,
  twice_once,
)

-- it doesn't, and those behind it are left
pub loop-number-preserved : goal.loop-number-preserved
loop-number-preserved c = rw (
  c.loop-number.invariant,
  twice_here c.args.names.now c.loop-number.number c.index-names-number.result c.loop-number-test.true c.index-names-number.is,
  ← c.is_among.ensures,
  c.if-is_among.false,
)
