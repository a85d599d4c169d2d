use Rattle.std.proofs.Common.{◌+◌, ◌<◌, ◌≤◌, length, sym, arith}
use Rattle.std.proofs.lemmas.Bool.Decides.{nat_tests}
use Rattle.std.proofs.lemmas.Option.{get_or_from_slice_get}
use Rattle.own_model.specs.Stored.{rows_at}
use Rattle.page_model.specs.Paged.{items}
use Rattle.txn_space.specs.Changed.{rows_with}
use Rattle.txn_space.proofs.WalkLemmas.{found_behind, found_last, found_within, run_of_rest, run_past}
use Rattle.txn_space.proofs.walk.run_from.Goals as goal

pub returns-in-Within : goal.returns-in-Within
returns-in-Within g c =
    let entries = items c.args.entries.now in
    let within : c.loop-number.number < length entries = grind (arith, nat_tests) in
    let is = sym (get_or_from_slice_get entries c.loop-number.number c.entry_at-entry.result.now c.entry_at-entry.result.now c.entry_at-entry.ensures) in
    found_within c.args.definition.now entries (rows_at (g.V.StoreView.db c.args.base.now).rows c.args.table.0) c.len-number-end.ensures.rising c.requires.keyed
    c.args.at c.loop-number.from c.loop-number.left c.loop-number.number c.entry_at-entry.result.now c.in-Within.run'.now within is c.loop-number.invariant.left c.in-Within.ensures

pub loop-number-preserved : goal.loop-number-preserved
loop-number-preserved g c =
    let entries = items c.args.entries.now in
    let within : c.loop-number.number < length entries = grind (arith, nat_tests) in
    let is = sym (get_or_from_slice_get entries c.loop-number.number c.entry_at-entry.result.now c.entry_at-entry.result.now c.entry_at-entry.ensures) in
    let behind = c.in-Behind.ensures in
    record {
      within = behind.within;
      left = found_behind c.args.definition.now entries (rows_at (g.V.StoreView.db c.args.base.now).rows c.args.table.0) c.len-number-end.ensures.rising c.requires.keyed
          c.args.at c.loop-number.from c.loop-number.left c.loop-number.number c.in-Behind.next c.in-Behind.further c.entry_at-entry.result.now within is c.loop-number.invariant.left behind;
    }

-- Behind the last entry the rows are those of the base.
pub returns-then-left-count : goal.returns-then-left-count
returns-then-left-count g c =
    let entries = items c.args.entries.now in
    let rows = rows_at (g.V.StoreView.db c.args.base.now).rows c.args.table.0 in
    let past : length entries ≤ c.loop-number.number = grind (arith, nat_tests) in
    let here = found_last c.args.definition.now entries rows c.len-number-end.ensures.rising c.requires.keyed c.args.at c.loop-number.from c.loop-number.left c.loop-number.number past c.loop-number.invariant.left in
    run_of_rest (rows_with c.args.definition.now entries rows) rows c.rows_from.result.now c.args.at (c.loop-number.from + c.loop-number.left) here c.rows_from.ensures

pub returns-else-left-count : goal.returns-else-left-count
returns-else-left-count g c =
    let entries = items c.args.entries.now in
    let rows = rows_at (g.V.StoreView.db c.args.base.now).rows c.args.table.0 in
    let past : length entries ≤ c.loop-number.number = grind (arith, nat_tests) in
    let here = found_last c.args.definition.now entries rows c.len-number-end.ensures.rising c.requires.keyed c.args.at c.loop-number.from c.loop-number.left c.loop-number.number past c.loop-number.invariant.left in
    let behind : length rows ≤ c.loop-number.from + c.loop-number.left = grind (arith, nat_tests) in
    run_past (rows_with c.args.definition.now entries rows) rows c.args.at (c.loop-number.from + c.loop-number.left) here behind
