use Rattle.std.proofs.Common.{◌∙◌, ap, length}
use Rattle.micro_db.proofs.KeptLemmas.{under-shelf}
use Rattle.micro_db.proofs.micro.MicroDb.shelf_count.Goals as goal

pub returns : goal.returns
returns c = λ db ordered stands. c.count.ensures.count ∙ ap length (under-shelf c.args.self.now c.args.subject.now db ordered stands c.count.ensures.rising)
