-- What a tally of a group represents.
use Rattle.std.specs.Prelude.{ℕ, List}
use Rattle.view_deltas.specs.declared.item_tally.ItemTally.{ItemTally}

-- how many rows the group has, and what is counted for each item
pub record Counted : Type 0 where
  pub rows : ℕ
  pub items : List ItemTally
