-- What an open transaction has changed, and the block of statements that it represents.
use Rattle.std.specs.Prelude.{◌≡◌, List, true}
use Rattle.own_base.specs.declared.row_name.RowName.{RowName}
use Rattle.own_model.specs.Db.{Db}
use Rattle.run_model.specs.Items.{items_of_all}
use Rattle.history_model.specs.World.{Block, after_block, statements_of}
use Rattle.txn_space.specs.declared.entry.Entry.{Entry}
use Rattle.txn_space.specs.Changed.{changed_rows}
use Rattle.txn_space.specs.Sound.{IsSpaceOf}
use Rattle.txn_core.specs.Runs.{is_entered, is_written}

-- The changes of a transaction represent its block on a database: made there, they give the rows that the block leaves; and
-- they are of rows that the block may write.
pub record RepresentsBlock (flat : Db) (block : Block) (space : List (List Entry)) : Type 0 where
  pub sound : IsSpaceOf flat.schema.tables space
  pub rows : changed_rows flat.schema.tables flat.rows space ≡ (after_block flat block).rows
  pub within : (name : RowName) → is_entered space name ≡ true → is_written (items_of_all flat.schema (statements_of block)) name ≡ true
