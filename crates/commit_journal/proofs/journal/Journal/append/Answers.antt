use Rattle.std.proofs.Common.{◌+◌, subst, sym, ◌∙◌, ap, length}
use Rattle.outer_world.proofs.Moments.{weaker}
use Rattle.outer_world.specs.OtherArea.{other_of}
use Rattle.disk_model.specs.Area.{IsOpened, with_payload}
use Rattle.disk_model.specs.Records.{payload_of}
use Rattle.commit_journal.specs.JournalState.{RepresentEither}
use Rattle.commit_journal.proofs.AreaBytes.{added_says, closed_gate, length-with}
use Rattle.commit_journal.proofs.Stores.{adding_represents}
use Rattle.commit_journal.proofs.journal.Journal.append.Goals as goal

pub returns-in-Ok-clause-rests : goal.returns-in-Ok-clause-rests
returns-in-Ok-clause-rests g c stored honest rests =
    let D = g.D.Disk in
    let journal = c.args.self.now in
    let framed = c.args.framed.now in
    let made = c.in-Ok.ensures.made honest in
    record {
      says = added_says stored (D.holds journal.disk journal.area) rests.says journal.end rests.end framed c.requires.framed (D.holds c.add_record.new.disk journal.area) made.here;
      epoch = rests.epoch;
      end = ap (λ n. n + length framed) rests.end ∙ sym (length-with stored framed c.requires.framed);
      beside = made.beside ∙ rests.beside;
      synced = made.synced;
    }

pub returns-in-Ok-clause-moments : goal.returns-in-Ok-clause-moments
returns-in-Ok-clause-moments g c stored honest rests =
    let D = g.D.Disk in
    let journal = c.args.self.now in
    let framed = c.args.framed.now in
    let shut : ¬ IsOpened (D.holds journal.disk (other_of journal.area)) = subst (λ l. ¬ IsOpened l) (sym rests.beside) closed_gate in
    weaker D.leaves D.moment D.might_have_left g.met.D.Disk.only_now journal.disk c.add_record.new.disk _ (RepresentEither stored (with_payload stored (payload_of framed)))
    (λ a b only. adding_represents journal.area stored (D.holds journal.disk journal.area) journal.end framed (D.holds journal.disk (other_of journal.area)) a b rests.says rests.end c.requires.framed shut only)
    (c.add_record.ensures.moments honest)

pub returns-in-Err-clause-moments : goal.returns-in-Err-clause-moments
returns-in-Err-clause-moments g c stored honest rests =
    let D = g.D.Disk in
    let journal = c.args.self.now in
    let framed = c.args.framed.now in
    let shut : ¬ IsOpened (D.holds journal.disk (other_of journal.area)) = subst (λ l. ¬ IsOpened l) (sym rests.beside) closed_gate in
    weaker D.leaves D.moment D.might_have_left g.met.D.Disk.only_now journal.disk c.add_record.new.disk _ (RepresentEither stored (with_payload stored (payload_of framed)))
    (λ a b only. adding_represents journal.area stored (D.holds journal.disk journal.area) journal.end framed (D.holds journal.disk (other_of journal.area)) a b rests.says rests.end c.requires.framed shut only)
    (c.add_record.ensures.moments honest)
