use Rattle.std.proofs.Common.{◌≡◌, ◌+◌, ◌<◌, ◌^◌, [], ◌∷◌, ◌++◌, length, map, take, sym, ap, ◌∙◌, arith, length-take}
use Rattle.std.proofs.lemmas.List.{take_more}
use Rattle.query_eval.specs.Tally.{tally, with_row}
use Rattle.query_eval.proofs.Tallies.{tally-push, tally-room}
use Rattle.query_eval.proofs.group_tally.GroupTally.of_rows.Goals as goal

-- A list in memory has few rows.
pub add-requires-clause-room : goal.add-requires-clause-room
add-requires-clause-room c =
    let few : length (take c.loop-row.row-index c.args.rows.now) + 1 < 2 ^ 63 = simp length-take (omega arith) in
    rw (c.loop-row.invariant) (tally-room 1 c.args.items.now (take c.loop-row.row-index c.args.rows.now) few)

pub loop-row-preserved : goal.loop-row-preserved
loop-row-preserved c =
    let front = take c.loop-row.row-index c.args.rows.now in
    let more : front ++ c.row-item.result ∷ [] ≡ take (c.loop-row.row-index + 1) c.args.rows.now =
    ap (λ last. front ++ last ∷ []) c.row-item.is ∙ sym (take_more c.args.rows.now c.loop-row.row-index c.row-item.result (omega arith)) in
    c.add.ensures ∙ ap (map (with_row c.row-item.result)) c.loop-row.invariant ∙ tally-push c.args.items.now front c.row-item.result ∙ ap (tally c.args.items.now) more
