use Rattle.call_stream.proofs.Firsts.{given_more}
use Rattle.call_stream.proofs.laws.given_calls_stay.Goals as goal

pub returns : goal.returns
returns c = given_more
