use Rattle.std.proofs.Common.{◌+◌, ◌-◌, ◌<◌, ◌++◌, length, take, drop, sym, ◌∙◌, ap, subst, arith}
use Rattle.std.specs.Option.{option_to_list}
use Rattle.std.proofs.lemmas.Bool.Decides.{nat_tests}
use Rattle.own_model.specs.Stored.{rows_at}
use Rattle.txn_space.specs.Entries.{entry_row}
use Rattle.txn_space.specs.Passed.{IsPartFrom}
use Rattle.txn_space.proofs.CutLemmas.{cut_part}
use Rattle.txn_space.proofs.SpotLemmas.{dropped_twice}
use Rattle.txn_space.proofs.walk.pass.Goals as goal

-- The place is before the entry's key.
pub returns-then-place-count : goal.returns-then-place-count
returns-then-place-count g c =
    let rows = rows_at (g.V.StoreView.db c.args.base.now).rows c.args.table.0 in
    let others = option_to_list (entry_row c.args.entry.now) in
    let count = c.spot_from-below.result.0 - c.args.from in
    let before : c.args.place < count = grind (arith, nat_tests) in
    let place : c.args.from + c.args.place < length rows = omega (arith, c.spot_from-below.ensures.within, c.spot_from-below.ensures.order) in
    let follow = dropped_twice c.args.from c.args.place rows ∙ (ap (λ n. drop n rows) (omega arith) ∙ c.rows_from.ensures.follow) in
    subst (λ front. IsPartFrom (front ++ others) c.args.place c.cut.result.now) (sym c.spot_from-below.ensures.below)
    (subst (IsPartFrom (take count (drop c.args.from rows) ++ others) c.args.place) (sym c.cut.ensures)
    (cut_part (drop c.args.from rows) others c.rows_from.result.now c.rows_from.ensures.rest count c.args.place before follow (c.rows_from.ensures.some place)))
