use Rattle.call_stream.proofs.ClosedTexts.{calls_within, given_within}
use Rattle.call_stream.proofs.laws.each_call_is_given_with_its_closing_byte.Goals as goal

pub returns-clause-texts : goal.returns-clause-texts
returns-clause-texts c = given_within

pub returns-clause-calls : goal.returns-clause-calls
returns-clause-calls c = calls_within
