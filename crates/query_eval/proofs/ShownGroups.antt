-- The rows that groups show.
use Rattle.std.proofs.Common.{◌≡◌, ℕ, ◌<◌, ◌^◌, List, [], ◌∷◌, length, map, refl, arith}
use Rattle.std.specs.List.{All}
use Rattle.std.proofs.lemmas.List.Elements.{All-map}
use Rattle.own_base.specs.declared.value.Value.{Value}
use Rattle.own_model.specs.declared.bound.BoundItem.{BoundItem}
use Rattle.own_model.specs.Db.{Row}
use Rattle.query_model.specs.Query.{group_of, summary, values_of}
use Rattle.query_eval.specs.ByValue.{by_value}
use Rattle.query_eval.specs.declared.item_tally.ItemTally.{ItemTally}
use Rattle.query_eval.specs.ShownEntry.{shown_entry}
use Rattle.query_eval.specs.Tally.{HasRoom, tally}
use Rattle.query_eval.proofs.Tallies.{length-group_of, shown-tally, tally-room}

shown-values : (items : List BoundItem) (column : ℕ) (rows : List Row) (values : List Value)
    → map shown_entry (map (λ (value : Value). (value, tally items (group_of column rows value))) values) ≡ map (λ value. summary items value (group_of column rows value)) values
shown-values items column rows [] = refl
shown-values items column rows (value ∷ values) = rw (shown-tally items value (group_of column rows value), shown-values items column rows values) refl

-- what is counted by value shows a summary of each group
pub shown-by_value : (items : List BoundItem) (column : ℕ) (rows : List Row)
    → map shown_entry (by_value (tally items) column rows) ≡ map (λ value. summary items value (group_of column rows value)) (values_of column rows)
shown-by_value items column rows = shown-values items column rows (values_of column rows)

-- few rows are counted in 64 bits
pub counted-by_value : (items : List BoundItem) (column : ℕ) (rows : List Row) → length rows < 2 ^ 63
    → All (λ (entry : Value × List ItemTally). All (HasRoom 0) entry.1) (by_value (tally items) column rows)
counted-by_value items column rows few =
    All-map (λ (entry : Value × List ItemTally). All (HasRoom 0) entry.1) (λ (value : Value). (value, tally items (group_of column rows value))) (values_of column rows)
    (λ k d within. tally-room 0 items _ (omega (arith, length-group_of column rows)))
