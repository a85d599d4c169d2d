use Rattle.std.proofs.Common.{List, map, subst}
use Rattle.own_base.specs.declared.row_name.RowName.{RowName}
use Rattle.own_base.specs.declared.row_name.Subject.{Subject}
use Rattle.page_model.specs.Run.{IsRunFrom}
use Rattle.micro_db.proofs.KeptLemmas.{under-seen}
use Rattle.micro_db.proofs.micro.MicroDb.seen_from.Goals as goal

pub returns : goal.returns
returns c = λ db ordered stands.
    subst (λ (all : List RowName). IsRunFrom all c.args.at (map (λ (filed : Subject × RowName). filed.1) c.run_from.result.now))
    (under-seen c.args.self.now c.args.subject.now db ordered stands c.run_from.ensures.rising) c.run_from.ensures.run
