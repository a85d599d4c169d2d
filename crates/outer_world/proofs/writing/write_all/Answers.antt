use Rattle.std.proofs.Common.{sym, subst, arith, ◌∙◌}
use Rattle.std.proofs.Math.Seq.{take-add}
use Rattle.std.proofs.lemmas.List.{take_rest}
use Rattle.std.specs.Io.KnownBytes.{Appends}
use Rattle.std.proofs.KnownBytes.{Appends-trans}
use Rattle.outer_world.proofs.writing.write_all.Goals as goal

-- what is written grew by the bytes before this turn, and then by those that this turn took
pub loop-taken-preserved : goal.loop-taken-preserved
loop-taken-preserved g c =
    let before = c.loop-taken.invariant in
    let turn = c.in_ok-taken.ensures in
    record {
      within = omega arith;
      written = subst (Appends _ _) (sym (take-add c.loop-taken.taken c.in_ok-taken.field-0 c.args.bytes.now))
          (Appends-trans _ _ _ _ _ before.written (rw take_rest at turn.taken));
      steady = turn.steady ∙ before.steady;
    }
