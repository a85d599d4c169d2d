use Rattle.own_model.specs.Stored.{rows_at}
use Rattle.own_model.specs.declared.condition.Cmp.TheVariants as cmp
use Rattle.query_eval.proofs.KeySpans.{narrows_eq, narrows_ge, narrows_gt, narrows_le, narrows_lt, narrows_seen}
use Rattle.query_eval.proofs.key_range.narrow_to.Goals as goal

-- A row that the sign takes is on one side of the value as a key, or at it.
pub returns-in-Eq : goal.returns-in-Eq
returns-in-Eq g c =
    rw c.in-Eq.is (narrows_seen c.args.definition.now.key.0 cmp.Eq c.args.value.now (rows_at (g.V.StoreView.db c.args.view.now).rows c.args.table.0) c.args.span c.narrow_back.result (narrows_eq c.args.definition.now c.args.value.now (rows_at (g.V.StoreView.db c.args.view.now).rows c.args.table.0) c.requires.stored c.requires.key c.args.span c.narrow_front-front.result c.narrow_back.result c.narrow_front-front.ensures c.narrow_back.ensures))

pub returns-in-Ge : goal.returns-in-Ge
returns-in-Ge g c =
    rw c.in-Ge.is (narrows_seen c.args.definition.now.key.0 cmp.Ge c.args.value.now (rows_at (g.V.StoreView.db c.args.view.now).rows c.args.table.0) c.args.span c.narrow_front.result (narrows_ge c.args.definition.now c.args.value.now (rows_at (g.V.StoreView.db c.args.view.now).rows c.args.table.0) c.requires.stored c.requires.key c.args.span c.narrow_front.result c.narrow_front.ensures))

pub returns-in-Gt : goal.returns-in-Gt
returns-in-Gt g c =
    rw c.in-Gt.is (narrows_seen c.args.definition.now.key.0 cmp.Gt c.args.value.now (rows_at (g.V.StoreView.db c.args.view.now).rows c.args.table.0) c.args.span c.narrow_front-in-Gt.result (narrows_gt c.args.definition.now c.args.value.now (rows_at (g.V.StoreView.db c.args.view.now).rows c.args.table.0) c.requires.stored c.requires.key c.args.span c.narrow_front-in-Gt.result c.narrow_front-in-Gt.ensures))

pub returns-in-Le : goal.returns-in-Le
returns-in-Le g c =
    rw c.in-Le.is (narrows_seen c.args.definition.now.key.0 cmp.Le c.args.value.now (rows_at (g.V.StoreView.db c.args.view.now).rows c.args.table.0) c.args.span c.narrow_back-in-Le.result (narrows_le c.args.definition.now c.args.value.now (rows_at (g.V.StoreView.db c.args.view.now).rows c.args.table.0) c.requires.stored c.requires.key c.args.span c.narrow_back-in-Le.result c.narrow_back-in-Le.ensures))

pub returns-in-Lt : goal.returns-in-Lt
returns-in-Lt g c =
    rw c.in-Lt.is (narrows_seen c.args.definition.now.key.0 cmp.Lt c.args.value.now (rows_at (g.V.StoreView.db c.args.view.now).rows c.args.table.0) c.args.span c.narrow_back-in-Lt.result (narrows_lt c.args.definition.now c.args.value.now (rows_at (g.V.StoreView.db c.args.view.now).rows c.args.table.0) c.requires.stored c.requires.key c.args.span c.narrow_back-in-Lt.result c.narrow_back-in-Lt.ensures))
