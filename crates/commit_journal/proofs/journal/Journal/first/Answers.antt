use Rattle.std.proofs.Common.{sym, arith, refl}
use Rattle.own_base.specs.declared.number.Area.TheVariants.{A}
use Rattle.commit_journal.proofs.AreaBytes.{laid_says, length-laid}
use Rattle.commit_journal.proofs.journal.Journal.first.Goals as goal

pub returns-in-Ok-clause-rests : goal.returns-in-Ok-clause-rests
returns-in-Ok-clause-rests g c honest =
    let D = g.D.Disk in
    let room = c.requires.room in
    record {
      says = laid_says 1 c.args.gated.now c.requires.gated (omega arith) (omega arith) (omega arith) (D.holds c.begin.new.disk A) (c.in-Ok.ensures.in_a honest);
      epoch = refl;
      end = sym (length-laid 1 c.args.gated.now c.requires.gated (omega arith) (omega arith) (omega arith));
      beside = c.in-Ok.ensures.in_b honest;
      synced = c.in-Ok.ensures.synced honest;
    }
