use Rattle.std.proofs.Common.{◌+◌, List, subst}
use Rattle.own_base.specs.declared.row_name.Subject.{Subject}
use Rattle.ordered_pairs.proofs.RangeLemmas.{run_past, run_within}
use Rattle.owner_sets.specs.SubjectOrder.{subject_cmp}
use Rattle.page_model.specs.Run.{IsRunFrom}
use Rattle.micro_db.proofs.files.Files.run_from.Goals as goal

-- Past the end there is nothing.
pub returns-then-upto-from-clause-run : goal.returns-then-upto-from-clause-run
returns-then-upto-from-clause-run g c = run_past subject_cmp c.args.self.now c.args.subject.now c.range-from.result.0 c.range-from.result.1 c.range-from.ensures.range c.args.place c.if-upto-from.true

-- What of the run is filed under the subject.
pub returns-clause-run : goal.returns-clause-run
returns-clause-run g c =
    let is = subst (λ (files : List (Subject × g.row.T.Denot)). IsRunFrom files (c.range-from.result.0 + c.args.place) c.run_from-run.result.now) c.self.view_is c.run_from-run.ensures in
    run_within subject_cmp c.args.self.now c.args.subject.now c.range-from.result.0 c.range-from.result.1 c.range-from.ensures.range c.args.place c.run_from-run.result.now c.min.result c.if-upto-from.false is c.min.ensures
