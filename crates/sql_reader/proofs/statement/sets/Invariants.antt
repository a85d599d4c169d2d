use Rattle.std.proofs.Common.{◌≤◌, length, codes}
use Rattle.grammar_model.specs.Limits.{store_limits}
use Rattle.sql_reader.specs.reading.Reader.{◌>>◌}
use Rattle.sql_reader.specs.reading.Statements as rules
use Rattle.grammar_model.specs.Terminal.{is_mark}
use Rattle.sql_reader.specs.reading.Rules.{mark}
use Rattle.sql_reader.proofs.Listing.{Listing}
use Rattle.sql_reader.proofs.statement.sets.Given as goal

abbrev pub invariant-loop-alloc : goal.invariant-loop-alloc
invariant-loop-alloc l =
    record {
      listing : Listing (is_mark (codes ",")) (mark (codes ",") >> rules.set store_limits) (rules.sets store_limits l.fn.cursor) l.sets l.cursor;
      shorter : length l.cursor ≤ length l.fn.cursor;
    }

abbrev pub decreases-loop-alloc : goal.decreases-loop-alloc
decreases-loop-alloc l = length l.cursor
