use Rattle.std.proofs.Common.{◌+◌, sym, subst, ap, ◌∙◌, arith, refl}
use Rattle.outer_world.specs.OtherArea.{other_of}
use Rattle.disk_model.specs.Area.{Says, laid}
use Rattle.commit_journal.proofs.AreaBytes.{laid_says, length-laid}
use Rattle.commit_journal.proofs.Steps.{other-other}
use Rattle.commit_journal.proofs.journal.Journal.replace.Goals as goal

pub returns-in-Ok-clause-rests : goal.returns-in-Ok-clause-rests
returns-in-Ok-clause-rests g c honest =
    let D = g.D.Disk in
    let journal = c.args.self.now in
    let gated = c.args.gated.now in
    let new = laid (journal.epoch + 1) gated in
    let disk = c.move_on.new.disk in
    let room = c.requires.room in
    let there : Says (D.holds disk (other_of journal.area)) new =
    laid_says (journal.epoch + 1) gated c.requires.gated (omega arith) (omega arith) (omega arith) (D.holds disk (other_of journal.area)) (c.in-Ok.ensures.there honest) in
    record {
      says = subst (λ area. Says (D.holds disk area) new) (sym c.other_area-self.ensures) there;
      epoch = refl;
      end = sym (length-laid (journal.epoch + 1) gated c.requires.gated (omega arith) (omega arith) (omega arith));
      beside = ap (λ area. D.holds disk (other_of area)) c.other_area-self.ensures ∙ ap (D.holds disk) (other-other journal.area) ∙ c.in-Ok.ensures.here honest;
      synced = c.in-Ok.ensures.synced honest;
    }

pub returns-in-Ok-clause-moments : goal.returns-in-Ok-clause-moments
returns-in-Ok-clause-moments g c stored honest rests = c.move_on.ensures.moments stored honest rests.says

pub returns-in-Err-clause-moments : goal.returns-in-Err-clause-moments
returns-in-Err-clause-moments g c stored honest rests = c.move_on.ensures.moments stored honest rests.says
