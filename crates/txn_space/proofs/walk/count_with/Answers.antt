use Rattle.std.proofs.Common.{◌+◌, ◌-◌, ◌<◌, ◌≤◌, length, drop, sym, ◌∙◌, ap, arith}
use Rattle.std.proofs.lemmas.Bool.Decides.{nat_tests}
use Rattle.std.proofs.lemmas.Option.{get_or_from_slice_get}
use Rattle.own_model.specs.Stored.{rows_at}
use Rattle.page_model.specs.Paged.{items}
use Rattle.txn_space.specs.Changed.{rows_with}
use Rattle.txn_space.proofs.CountLemmas.{counted_last, counted_none, counted_some}
use Rattle.txn_space.proofs.walk.count_with.Goals as goal
use Rattle.txn_space.proofs.walk.count_with.Goals.{then-is_some, else-is_some}

pub loop-number-preserved : goal.loop-number-preserved
loop-number-preserved g c =
    let entries = items c.args.entries.now in
    let rows = rows_at (g.V.StoreView.db c.args.base.now).rows c.args.table.0 in
    let within : c.loop-number.number < length entries = grind (arith, nat_tests) in
    let is = sym (get_or_from_slice_get entries c.loop-number.number c.entry_at-entry.result.now c.entry_at-entry.result.now c.entry_at-entry.ensures) in
    let rest = drop (c.loop-number.number + 1) entries in
    elim c.if-is_some.branch [
      | then-is_some w ↦ record {
        within = c.spot_from-below.ensures.within;
        few = omega arith;
        counted = counted_some c.args.definition.now entries rows c.len-number-end.ensures.rising c.requires.keyed c.loop-number.count c.loop-number.from c.loop-number.number c.spot_from-below.result.0 c.spot_from-below.result.1 c.entry_at-entry.result.now
            within is c.loop-number.invariant.counted c.spot_from-below.ensures.behind c.spot_from-below.ensures.order c.spot_from-below.ensures.within c.spot_from-below.ensures.below c.spot_from-below.ensures.above (sym c.is_some.ensures ∙ w.if-is_some.true)
            ∙ ap (λ n. n + length (rows_with c.args.definition.now rest (drop c.spot_from-below.result.1 rows))) (sym w.count-is);
      }
      | else-is_some w ↦ record {
        within = c.spot_from-below.ensures.within;
        few = omega arith;
        counted = counted_none c.args.definition.now entries rows c.len-number-end.ensures.rising c.requires.keyed c.loop-number.count c.loop-number.from c.loop-number.number c.spot_from-below.result.0 c.spot_from-below.result.1 c.entry_at-entry.result.now
            within is c.loop-number.invariant.counted c.spot_from-below.ensures.behind c.spot_from-below.ensures.order c.spot_from-below.ensures.within c.spot_from-below.ensures.below c.spot_from-below.ensures.above (sym c.is_some.ensures ∙ w.if-is_some.false)
            ∙ ap (λ n. n + length (rows_with c.args.definition.now rest (drop c.spot_from-below.result.1 rows))) (sym w.count-is);
      }
    ]

pub returns : goal.returns
returns g c =
    let entries = items c.args.entries.now in
    let rows = rows_at (g.V.StoreView.db c.args.base.now).rows c.args.table.0 in
    let past : length entries ≤ c.loop-number.number = grind (arith, nat_tests) in
    ap (λ n. c.loop-number.count + (n - c.loop-number.from)) c.count.ensures
    ∙ counted_last c.args.definition.now entries rows c.len-number-end.ensures.rising c.requires.keyed c.loop-number.count c.loop-number.from c.loop-number.number past c.loop-number.invariant.counted
