use Rattle.std.proofs.Common.{◌≡◌, ◌++◌}
use Rattle.own_base.specs.Key.{key_cmp}
use Rattle.own_model.specs.Db.{key_of}
use Rattle.own_model.specs.Stored.{rows_at}
use Rattle.page_model.specs.Changed.{AreKeyed}
use Rattle.page_model.specs.Paged.{items}
use Rattle.page_model.specs.Rising.{IsRising}
use Rattle.txn_space.specs.Changed.{rows_with}
use Rattle.txn_space.specs.Entries.{entry_key, entry_row}
use Rattle.txn_space.proofs.merging.merged_rows.Given as goal

-- the rows so far, and those that are left with the entries that are left
abbrev pub invariant-loop-entry : goal.invariant-loop-entry
invariant-loop-entry g l =
    record {
      entries : IsRising entry_key key_cmp l.entry-iterator;
      keyed : AreKeyed (key_of l.fn.definition) entry_key entry_row l.entry-iterator;
      rising : IsRising (key_of l.fn.definition) key_cmp l.left;
      whole : l.rows ++ rows_with l.fn.definition l.entry-iterator l.left ≡ rows_with l.fn.definition (items l.fn.entries) (rows_at (g.V.StoreView.db l.fn.base).rows l.fn.table.0);
    }

-- behind all entries the rows that are left are those of the base
abbrev pub invariant-loop-row : goal.invariant-loop-row
invariant-loop-row g l =
    l.rows ++ l.row-iterator ≡ rows_with l.fn.definition (items l.fn.entries) (rows_at (g.V.StoreView.db l.fn.base).rows l.fn.table.0)
