use Rattle.std.proofs.Common.{◌++◌, List}
use Rattle.std.specs.List.{AllByRecursion}
use Rattle.own_model.specs.declared.script.ScriptCall.{ScriptCall}
use Rattle.sql_reader.specs.scripts.Counts.{AreCounted}
use Rattle.sql_reader.proofs.Scripts.Ends.{EndsTo}
use Rattle.call_stream.specs.Taken.{IsPlainCall}
use Rattle.call_stream.proofs.stream.ends_of.Given as goal

abbrev pub invariant-loop-session : goal.invariant-loop-session
invariant-loop-session l = record {
  numbered : (calls : List ScriptCall) → AreCounted l.counts calls → EndsTo calls l.session (calls ++ l.ends);
  plain : AllByRecursion IsPlainCall l.ends;
}
