use Rattle.std.proofs.Common.{◌+◌, ◌*◌, ◌≤◌, length, codes}
use Rattle.grammar_model.specs.Limits.{store_limits}
use Rattle.sql_reader.specs.reading.Condition as rules
use Rattle.sql_reader.specs.reading.Reader.{◌>>◌}
use Rattle.sql_reader.specs.reading.Rules.{word}
use Rattle.grammar_model.specs.Terminal.{is_word}
use Rattle.sql_reader.proofs.Listing.{Listing}
use Rattle.sql_reader.proofs.condition.+condition.Given as goal

abbrev pub decreases-cond : goal.decreases-cond
decreases-cond l = 5 * l.levels + 4

abbrev pub decreases-cond_parts : goal.decreases-cond_parts
decreases-cond_parts l = 5 * l.levels + 3

abbrev pub decreases-conj : goal.decreases-conj
decreases-conj l = 5 * l.levels + 2

abbrev pub decreases-conj_parts : goal.decreases-conj_parts
decreases-conj_parts l = 5 * l.levels + 1

abbrev pub decreases-neg : goal.decreases-neg
decreases-neg l = 5 * l.levels

abbrev pub invariant-cond_parts-loop-alloc : goal.invariant-cond_parts-loop-alloc
invariant-cond_parts-loop-alloc l =
    record {
      listing : Listing (is_word (codes "OR")) (word (codes "OR") >> rules.conj_over (rules.neg store_limits l.levels)) (rules.cond_parts (rules.neg store_limits l.levels) l.fn.cursor) l.parts l.cursor;
      shorter : length l.cursor ≤ length l.fn.cursor;
    }

abbrev pub decreases-cond_parts-loop-alloc : goal.decreases-cond_parts-loop-alloc
decreases-cond_parts-loop-alloc l = length l.cursor

abbrev pub invariant-conj_parts-loop-alloc : goal.invariant-conj_parts-loop-alloc
invariant-conj_parts-loop-alloc l =
    record {
      listing : Listing (is_word (codes "AND")) (word (codes "AND") >> rules.neg store_limits l.levels) (rules.conj_parts (rules.neg store_limits l.levels) l.fn.cursor) l.parts l.cursor;
      shorter : length l.cursor ≤ length l.fn.cursor;
    }

abbrev pub decreases-conj_parts-loop-alloc : goal.decreases-conj_parts-loop-alloc
decreases-conj_parts-loop-alloc l = length l.cursor
