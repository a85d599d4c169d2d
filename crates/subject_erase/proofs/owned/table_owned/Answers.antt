use Rattle.std.proofs.Common.{◌+◌, ◌≤◌, length, sym, subst}
use Rattle.own_model.specs.Stored.{rows_at}
use Rattle.subject_model.specs.Owners.{owns}
use Rattle.subject_erase.proofs.OwnedLemmas.{found-owns}
use Rattle.subject_erase.proofs.TableFlags.{RowsFlagged, RowsFlagged-end, RowsFlagged-more}
use Rattle.subject_erase.proofs.owned.table_owned.Goals as goal

-- one row more
pub loop-at-preserved : goal.loop-at-preserved
loop-at-preserved g c =
    let db = g.V.StoreView.db c.args.view.now in
    let test = owns db c.args.subject.now.0 in
    subst (RowsFlagged db test c.args.table.0 (c.loop-at.at + 1)) (sym c.in_ok-add.ensures.added)
    (RowsFlagged-more db test c.args.table.0 c.loop-at.at c.loop-at.owned c.is_owner.result c.loop-at.invariant
    (λ definition row table_is row_is.
    found-owns db c.args.sets.now.owners c.args.subject.now c.args.table.0 c.loop-at.at definition row c.is_owner.result (g.met.V.StoreView.ordered c.args.view.now) c.requires.owner c.requires.owners table_is row_is c.is_owner.ensures))

pub returns : goal.returns
returns g c =
    let db = g.V.StoreView.db c.args.view.now in
    let past : length (rows_at db.rows c.args.table.0) ≤ c.loop-at.at = subst (λ n. n ≤ c.loop-at.at) c.count-at-end.ensures c.loop-at-test.false in
    RowsFlagged-end db (owns db c.args.subject.now.0) c.args.table.0 c.loop-at.at c.loop-at.owned c.loop-at.invariant past
