use Rattle.std.proofs.Common.{◌≤◌, length}
use Rattle.grammar_model.specs.Limits.{store_limits}
use Rattle.sql_reader.specs.reading.Create as rules
use Rattle.sql_reader.proofs.Listing.{Listing}
use Rattle.sql_reader.proofs.create.attrs.Given as goal

abbrev pub invariant-loop-alloc : goal.invariant-loop-alloc
invariant-loop-alloc l =
    record {
      listing : Listing rules.begins_attr (rules.attr_rule store_limits) (rules.attrs store_limits l.fn.cursor) l.attrs l.cursor;
      shorter : length l.cursor ≤ length l.fn.cursor;
    }

abbrev pub decreases-loop-alloc : goal.decreases-loop-alloc
decreases-loop-alloc l = length l.cursor
