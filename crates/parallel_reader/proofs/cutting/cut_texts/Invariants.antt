use Rattle.std.proofs.Common.{length, ◌-◌}
use Rattle.sql_reader.proofs.Scripts.Reading.{ReadTo}
use Rattle.parallel_reader.specs.Cut.{Cuts}
use Rattle.parallel_reader.proofs.cutting.cut_texts.Given as goal

abbrev pub invariant-loop-fault : goal.invariant-loop-fault
invariant-loop-fault l = ReadTo Cuts l.text l.at l.session l.unread.items

abbrev pub decreases-loop-fault : goal.decreases-loop-fault
decreases-loop-fault l = length l.text - l.at
