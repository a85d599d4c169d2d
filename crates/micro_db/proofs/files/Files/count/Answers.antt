use Rattle.std.proofs.Common.{sym}
use Rattle.ordered_pairs.proofs.RangeLemmas.{rights_length}
use Rattle.owner_sets.specs.SubjectOrder.{subject_cmp}
use Rattle.micro_db.proofs.files.Files.count.Goals as goal

pub returns-clause-count : goal.returns-clause-count
returns-clause-count g c = sym (rights_length subject_cmp c.args.self.now c.args.subject.now c.range-from.result.0 c.range-from.result.1 c.range-from.ensures.range)
