use Rattle.std.proofs.Common.{List, map, subst}
use Rattle.own_base.specs.declared.row_name.Subject.{Subject}
use Rattle.page_model.specs.Run.{IsRunFrom}
use Rattle.shelf_model.specs.declared.shelved.Shelved.{Shelved}
use Rattle.micro_db.proofs.KeptLemmas.{under-shelf}
use Rattle.micro_db.proofs.micro.MicroDb.shelf_from.Goals as goal

pub returns : goal.returns
returns c = λ db ordered stands.
    subst (λ (all : List Shelved). IsRunFrom all c.args.at (map (λ (filed : Subject × Shelved). filed.1) c.run_from.result.now))
    (under-shelf c.args.self.now c.args.subject.now db ordered stands c.run_from.ensures.rising) c.run_from.ensures.run
