use Rattle.store_snapshot.proofs.Subjects.{subject-within}
use Rattle.state_tests.proofs.showing.check_absent.Goals as goal

pub no_subject-requires : goal.no_subject-requires
no_subject-requires g c = rw c.schema.ensures (subject-within c.args.version.now.schema c.subject_of-subject.result.0.table.0 c.subject_of-subject.ensures)
