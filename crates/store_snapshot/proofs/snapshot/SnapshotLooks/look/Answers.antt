use Rattle.store_snapshot.proofs.Looked.{get-looked, other-looked}
use Rattle.store_snapshot.proofs.snapshot.SnapshotLooks.look.Goals as goal

pub access-requires-clause-subject : goal.access-requires-clause-subject
access-requires-clause-subject c = rw c.version.ensures.same (get-looked c.args.self.now.schema c.args.bound.now c.in-Get.subject c.requires c.in-Get.is)

pub answer-requires : goal.answer-requires
answer-requires c = other-looked c.args.self.now.schema c.args.bound.now c.requires c.in_default.not-Get
