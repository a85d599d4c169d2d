use Rattle.call_stream.proofs.Beginnings.{given_first}
use Rattle.call_stream.proofs.laws.given_calls_are_first.Goals as goal

pub returns : goal.returns
returns c = given_first
