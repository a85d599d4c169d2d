use Rattle.std.proofs.Common.{◌≡◌, ◌++◌, drop}
use Rattle.std.specs.List.{enumerate_from, flat_map}
use Rattle.schema_model.specs.Explained.{explained, table_lines}
use Rattle.annot_schema.proofs.explain.explained.Given as goal

-- the lines that are added, with those still to add
abbrev pub invariant-loop-number : goal.invariant-loop-number
invariant-loop-number l = l.lines ++ flat_map (table_lines l.schema) (enumerate_from l.number (drop l.number l.schema.tables)) ≡ explained l.schema
