use Rattle.std.proofs.Common.{sym, ap, ◌∙◌, arith}
use Rattle.own_model.specs.Db.{as_key, key_of}
use Rattle.own_model.specs.Stored.{is_equal, rows_at}
use Rattle.subject_model.proofs.NamedLemmas.{one_key}
use Rattle.owner_sets.proofs.Searched.{Narrowed-before, Narrowed-behind, Narrowed-end, place_of-definition, position_of_key}
use Rattle.owner_sets.proofs.places.searched.Goals as goal

pub loop-low-preserved-in-Less : goal.loop-low-preserved-in-Less
loop-low-preserved-in-Less g c =
    Narrowed-behind c.args.definition.now (as_key c.args.key.now) (rows_at (g.V.StoreView.db c.args.view.now).rows c.args.table.0) c.loop-low.low c.loop-low.high _ c.in_ok-row.row.now
    c.requires.rising c.loop-low.invariant (omega arith) (sym c.in_ok-row.ensures) (sym c.in-Less.ensures)

pub loop-low-preserved : goal.loop-low-preserved
loop-low-preserved g c =
    Narrowed-before c.args.definition.now (as_key c.args.key.now) (rows_at (g.V.StoreView.db c.args.view.now).rows c.args.table.0) c.loop-low.low c.loop-low.high _ c.in_ok-row.row.now
    c.requires.rising c.loop-low.invariant (omega arith) (sym c.in_ok-row.ensures) (sym c.in-Greater.ensures)

pub returns-in-Equal : goal.returns-in-Equal
returns-in-Equal g c =
    let rows = rows_at (g.V.StoreView.db c.args.view.now).rows c.args.table.0 in
    sym (place_of-definition (g.V.StoreView.db c.args.view.now).schema (g.V.StoreView.db c.args.view.now).rows c.args.table.0 c.args.definition.now (as_key c.args.key.now) c.requires.there
    ∙ position_of_key c.args.definition.now rows _ c.in_ok-row.row.now (as_key c.args.key.now) c.requires.rising (sym c.in_ok-row.ensures)
    (one_key (key_of c.args.definition.now c.in_ok-row.row.now) (as_key c.args.key.now) (ap is_equal (sym c.in-Equal.ensures))))

pub returns : goal.returns
returns g c =
    let rows = rows_at (g.V.StoreView.db c.args.view.now).rows c.args.table.0 in
    sym (place_of-definition (g.V.StoreView.db c.args.view.now).schema (g.V.StoreView.db c.args.view.now).rows c.args.table.0 c.args.definition.now (as_key c.args.key.now) c.requires.there
    ∙ Narrowed-end c.args.definition.now (as_key c.args.key.now) rows c.loop-low.low c.loop-low.high c.loop-low.invariant (omega arith))
