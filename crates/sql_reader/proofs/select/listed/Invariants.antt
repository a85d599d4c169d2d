use Rattle.std.proofs.Common.{◌≤◌, length}
use Rattle.grammar_model.specs.Limits.{store_limits}
use Rattle.sql_reader.specs.reading.Select as rules
use Rattle.sql_reader.proofs.Itemizing.{Itemizing}
use Rattle.sql_reader.proofs.select.listed.Given as goal

abbrev pub invariant-loop-alloc : goal.invariant-loop-alloc
invariant-loop-alloc l =
    record {
      itemizing : Itemizing store_limits (rules.listed store_limits l.fn.cursor) l.items l.cursor;
      shorter : length l.cursor ≤ length l.fn.cursor;
    }

abbrev pub decreases-loop-alloc : goal.decreases-loop-alloc
decreases-loop-alloc l = length l.cursor
