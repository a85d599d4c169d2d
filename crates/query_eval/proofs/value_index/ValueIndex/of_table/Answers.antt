use Rattle.std.proofs.Common.{[], ◌∷◌, ◌++◌, ◌∙◌, append_assoc}
use Rattle.query_eval.proofs.value_index.ValueIndex.of_table.Goals as goal

pub loop-row-init : goal.loop-row-init
loop-row-init g c = (
  [],
  rw (c.into_iter-row-iterator.ensures.into_iter_gives, c.new-row-items.ensures.view, c.new-row-items.ensures.table) c.new-row-items.ensures.rows,
  c.new-index.ensures.column,
  c.new-index.ensures.rows,
)

-- A row more is gone through, and is in the index.
pub loop-row-preserved : goal.loop-row-preserved
loop-row-preserved g c =
    let gone = c.loop-row.invariant in
    let more = c.in_ok-add.ensures.rows gone.0 (rw (gone.2) gone.3) in (
      gone.0 ++ c.in-Some.row.now ∷ [],
      rw (append_assoc, ← c.in-Some.ensures.steps) gone.1,
      c.in_ok-add.ensures.column ∙ gone.2,
      rw gone.2 at more,
    )
