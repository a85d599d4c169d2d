use Rattle.std.proofs.Common.{◌≡◌, ◌++◌, drop, map}
use Rattle.own_model.specs.declared.schema.TableDef.{TableDef}
use Rattle.state_model.specs.Put.{put_from, put_rows}
use Rattle.table_part.specs.Part.{Part, rows_of}
use Rattle.store_version.proofs.after.parts_after.Given as goal

-- the parts so far have the keys and the rows, and the tables that are left have the rest of them
abbrev pub invariant-loop-number : goal.invariant-loop-number
invariant-loop-number l = record {
  keys : map (λ (part : Part). part.key) l.after.items ++ map (λ (table : TableDef). table.key) (drop l.number l.tables) ≡ map (λ (table : TableDef). table.key) l.tables;
  rows : map rows_of l.after.items ++ put_from l.number (drop l.number l.tables) l.changes (drop l.number (map rows_of l.parts)) ≡ put_rows l.tables l.changes (map rows_of l.parts);
}
