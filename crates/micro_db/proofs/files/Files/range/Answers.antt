use Rattle.std.proofs.Common.{List, subst}
use Rattle.own_base.specs.declared.row_name.Subject.{Subject}
use Rattle.ordered_pairs.specs.RangeOf.{IsRangeOf}
use Rattle.ordered_pairs.proofs.RangeLemmas.{range_between}
use Rattle.owner_sets.specs.SubjectOrder.{subject_cmp}
use Rattle.page_model.specs.Paged.{items}
use Rattle.micro_db.proofs.files.Files.range.Goals as goal

-- Between the places of the two bounds.
pub returns-clause-range : goal.returns-clause-range
returns-clause-range g c =
    let from = c.place_of-from.result in
    let upto = c.place_of-upto.result in
    subst (λ (files : List (Subject × g.row.T.Denot)). IsRangeOf subject_cmp files c.args.subject.now from upto) c.self.view_is
    (range_between subject_cmp (items c.self.inside.pages) c.args.subject.now from upto c.place_of-from.ensures.divides c.place_of-upto.ensures.divides)
