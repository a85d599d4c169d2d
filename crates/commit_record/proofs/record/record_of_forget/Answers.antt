use Rattle.commit_record.proofs.Texts.{forget-fits}
use Rattle.commit_record.proofs.record.record_of_forget.Goals as goal

pub returns-clause-never : goal.returns-clause-never
returns-clause-never c count is = forget-fits c.args.name.now c.in_ok-name.name c.encode.result count c.requires c.in_ok-name.ensures c.encode.ensures is
