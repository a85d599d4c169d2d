use Rattle.std.proofs.Common.{length, ◌-◌}
use Rattle.sql_reader.specs.scripts.TextCalls.{Takes}
use Rattle.sql_reader.proofs.Scripts.Reading.{ReadTo}
use Rattle.sql_reader.proofs.script.read_calls.Given as goal

abbrev pub invariant-loop-fault : goal.invariant-loop-fault
invariant-loop-fault l = ReadTo Takes l.text l.at l.session l.calls.list.items

abbrev pub decreases-loop-fault : goal.decreases-loop-fault
decreases-loop-fault l = length l.text - l.at
