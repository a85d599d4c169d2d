use Rattle.call_stream.specs.Taken.{pending}
use Rattle.call_stream.proofs.Faults.{taken_texts}
use Rattle.call_stream.proofs.laws.calls_are_given.Goals as goal

pub returns : goal.returns
returns c = λ stream bytes texts calls taken. record { rest = pending stream; are_texts = taken_texts stream bytes texts calls taken; calls_of_texts = taken.calls_of_texts }
