use Rattle.std.proofs.Common.{arith}
use Rattle.parallel_reader.proofs.ReadTexts.{asked-length, asked-sessions}
use Rattle.parallel_reader.proofs.reading.number_texts.Goals as goal

pub number_calls-requires-clause-sessions : goal.number_calls-requires-clause-sessions
number_calls-requires-clause-sessions c = asked-sessions c.args.unread.items c.in_ok-asked.asked.items c.requires.sessions c.in_ok-asked.ensures

pub number_calls-requires-clause-few : goal.number_calls-requires-clause-few
number_calls-requires-clause-few c = omega (arith, asked-length c.args.unread.items c.in_ok-asked.asked.items c.in_ok-asked.ensures)
