use Rattle.std.proofs.Common.{take, sym, subst, ap, ◌∙◌, arith, rules, length-take, length-take-le}
use Rattle.std.specs.Io.KnownBytes.{Consumes}
use Rattle.std.proofs.KnownBytes.{Consumes-trans, Consumes-kept}
use Rattle.outer_world.proofs.Filling.{take-filled}
use Rattle.outer_world.proofs.reading.read_all.Goals as goal

-- this turn read what comes after the bytes that were read before it
pub loop-filled-preserved : goal.loop-filled-preserved
loop-filled-preserved g c =
    let before = c.loop-filled.invariant in
    let turn = c.in-Ok.ensures in
    let filled = c.loop-filled.filled in
    let bytes = c.deref_mut.result.now in
    let same = ap (take filled) c.deref_mut.ensures.value ∙ c.make_room.ensures.kept in
    record {
      within = omega arith;
      few = search rules;
      read = subst (Consumes _ _) (sym (take-filled _ _ _ _ filled c.in-Ok.count _ (length-take-le filled bytes (omega (arith, c.deref_mut.ensures.len))) turn.within (omega arith)))
          (Consumes-trans _ _ _ _ _ (subst (Consumes _ _) (sym same) before.read) turn.given);
      steady = turn.steady ∙ before.steady;
    }

-- a call that failed read nothing, so fewer than all were read
pub returns-in-Err-clause-part : goal.returns-in-Err-clause-part
returns-in-Err-clause-part g c =
    let before = c.loop-filled.invariant in
    let filled = c.loop-filled.filled in
    (take c.loop-filled.filled c.loop-filled.bytes.items, omega (arith, length-take filled c.loop-filled.bytes.items), Consumes-kept _ _ _ _ before.read c.in-Err.ensures.kept)
