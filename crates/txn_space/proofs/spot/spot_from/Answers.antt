use Rattle.std.proofs.Common.{◌-◌, drop, sym, ◌∙◌, ap, arith}
use Rattle.std.specs.Ordering.{is_eq}
use Rattle.std.proofs.lemmas.Option.{slice_get_within}
use Rattle.own_model.specs.Db.{key_of}
use Rattle.own_model.specs.Stored.{rows_at}
use Rattle.own_model.proofs.KeyOrder.{key_order}
use Rattle.page_model.proofs.SplitLemmas.{below_is}
use Rattle.txn_space.proofs.SpotLemmas.{spot_here, spot_none, spot_other}
use Rattle.txn_space.proofs.spot.spot_from.Goals as goal

-- The row there is one of those that are counted.
pub overflow_add-result : goal.overflow_add-result
overflow_add-result g c =
    let within = slice_get_within (rows_at (g.V.StoreView.db c.args.base.now).rows c.args.table.0) c.place_from-place.result c.in-Some.row.now (sym c.in-Some.ensures) in
    omega (arith, c.place_from-place.ensures.counted)

pub returns-then-is_eq-clause-within : goal.returns-then-is_eq-clause-within
returns-then-is_eq-clause-within g c =
    let within = slice_get_within (rows_at (g.V.StoreView.db c.args.base.now).rows c.args.table.0) c.place_from-place.result c.in-Some.row.now (sym c.in-Some.ensures) in
    omega arith

pub returns-in-None-clause-below : goal.returns-in-None-clause-below
returns-in-None-clause-below g c =
    below_is (key_of c.args.definition.now) key_order c.args.key.now (drop c.args.from (rows_at (g.V.StoreView.db c.args.base.now).rows c.args.table.0)) (c.place_from-place.result - c.args.from) c.place_from-place.ensures.place

pub returns-then-is_eq-clause-below : goal.returns-then-is_eq-clause-below
returns-then-is_eq-clause-below g c =
    below_is (key_of c.args.definition.now) key_order c.args.key.now (drop c.args.from (rows_at (g.V.StoreView.db c.args.base.now).rows c.args.table.0)) (c.place_from-place.result - c.args.from) c.place_from-place.ensures.place

pub returns-else-is_eq-clause-below : goal.returns-else-is_eq-clause-below
returns-else-is_eq-clause-below g c =
    below_is (key_of c.args.definition.now) key_order c.args.key.now (drop c.args.from (rows_at (g.V.StoreView.db c.args.base.now).rows c.args.table.0)) (c.place_from-place.result - c.args.from) c.place_from-place.ensures.place

-- No row stands at the place, or the key's, or another.
pub returns-in-None-clause-above : goal.returns-in-None-clause-above
returns-in-None-clause-above g c =
    spot_none c.args.definition.now c.args.key.now (rows_at (g.V.StoreView.db c.args.base.now).rows c.args.table.0) c.args.from c.place_from-place.result c.place_from-place.ensures.behind c.requires.rising c.place_from-place.ensures.place (sym c.in-None.ensures)

pub returns-then-is_eq-clause-above : goal.returns-then-is_eq-clause-above
returns-then-is_eq-clause-above g c =
    spot_here c.args.definition.now c.args.key.now (rows_at (g.V.StoreView.db c.args.base.now).rows c.args.table.0) c.args.from c.place_from-place.result c.place_from-place.ensures.behind c.requires.rising c.place_from-place.ensures.place c.in-Some.row.now (sym c.in-Some.ensures)
    (sym (c.is_eq.ensures ∙ ap is_eq c.compare_key.ensures) ∙ c.if-is_eq.true)

pub returns-else-is_eq-clause-above : goal.returns-else-is_eq-clause-above
returns-else-is_eq-clause-above g c =
    spot_other c.args.definition.now c.args.key.now (rows_at (g.V.StoreView.db c.args.base.now).rows c.args.table.0) c.args.from c.place_from-place.result c.place_from-place.ensures.behind c.requires.rising c.place_from-place.ensures.place c.in-Some.row.now (sym c.in-Some.ensures)
    (sym (c.is_eq.ensures ∙ ap is_eq c.compare_key.ensures) ∙ c.if-is_eq.false)
