use Rattle.call_stream.proofs.Scripts.{script_of}
use Rattle.call_stream.proofs.laws.whole_is_a_script.Goals as goal

pub returns : goal.returns
returns c = script_of
