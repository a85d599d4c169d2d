use Rattle.std.proofs.Common.{◌<◌, ◌≤◌, ◌+◌, length, drop, sym, ◌∙◌, ap, arith}
use Rattle.std.specs.Prelude.{◌&&◌}
use Rattle.std.proofs.lemmas.Bool.Decides.{nat_tests}
use Rattle.query_eval.specs.ShowColumns.{show_columns}
use Rattle.query_eval.proofs.ShowColumns.{shows_on, shows_past}
use Rattle.query_eval.proofs.shown.are_columns.Goals as goal

-- this item isn't the column of its place
pub returns-then-not-is_column : goal.returns-then-not-is_column
returns-then-not-is_column c =
    let items = c.args.items.now in
    let place = c.loop-place.place in
    let inside : place < length items = grind (arith, nat_tests) in
    sym (c.loop-place.invariant ∙ (shows_on items place _ inside
    ∙ ap (λ b. b && show_columns (place + 1) (drop (place + 1) items)) (sym c.is_column.ensures ∙ c.if-not-is_column.true)))

pub loop-place-preserved : goal.loop-place-preserved
loop-place-preserved c =
    let items = c.args.items.now in
    let place = c.loop-place.place in
    let inside : place < length items = grind (arith, nat_tests) in
    c.loop-place.invariant ∙ (shows_on items place _ inside
    ∙ ap (λ b. b && show_columns (place + 1) (drop (place + 1) items)) (sym c.is_column.ensures ∙ c.if-not-is_column.false))

pub returns : goal.returns
returns c =
    let past : length c.args.items.now ≤ c.loop-place.place = grind (arith, nat_tests) in
    sym (c.loop-place.invariant ∙ shows_past c.args.items.now c.loop-place.place past)
