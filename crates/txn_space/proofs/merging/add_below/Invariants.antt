use Rattle.std.proofs.Common.{◌≡◌, ◌++◌, length}
use Rattle.own_base.specs.Key.{key_cmp}
use Rattle.own_model.specs.Db.{key_of}
use Rattle.page_model.specs.Changed.{above_key, below_key}
use Rattle.page_model.specs.Rising.{IsRising}
use Rattle.txn_space.proofs.merging.add_below.Given as goal

-- the rows so far, and those that are left
abbrev pub invariant-loop-row : goal.invariant-loop-row
invariant-loop-row g l =
    record {
      rising : IsRising (key_of l.definition) key_cmp l.left;
      below : l.rows ++ below_key (key_of l.definition) key_cmp l.key l.left ≡ l.initial.rows ++ below_key (key_of l.definition) key_cmp l.key l.initial.left;
      above : above_key (key_of l.definition) key_cmp l.key l.left ≡ above_key (key_of l.definition) key_cmp l.key l.initial.left;
    }

abbrev pub decreases-loop-row : goal.decreases-loop-row
decreases-loop-row g l = length l.left
