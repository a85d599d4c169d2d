use Rattle.std.proofs.Common.{◌≡◌, ◌∙◌, List, subst}
use Rattle.ref_index.specs.Moved.{AreMoved}
use Rattle.ref_index.specs.declared.column_index.ColumnIndex.{ColumnIndex}
use Rattle.ref_index.proofs.StandsLemmas.{stands_moved}
use Rattle.ref_index.proofs.index.RefIndex.with_changes.Goals as goal

pub returns : goal.returns
returns c = λ db ordered stands tell.
    let columns : c.as_slice.result.now ≡ c.args.self.now = c.as_slice.ensures.value ∙ c.self.view_is in
    stands_moved db c.args.changes.now c.args.self.now c.in_ok-columns.columns.items ordered stands tell
    (subst (λ (before : List ColumnIndex). AreMoved c.args.changes.now before c.in_ok-columns.columns.items) columns c.in_ok-columns.ensures)
