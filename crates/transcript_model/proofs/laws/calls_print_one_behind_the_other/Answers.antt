use Rattle.std.proofs.lemmas.Grind.{flat_map-append}
use Rattle.transcript_model.specs.Printed.{lines_of, printed}
use Rattle.transcript_model.proofs.laws.calls_print_one_behind_the_other.Goals as goal

pub returns : goal.returns
unfolding printed
returns c = λ base history calls more. flat_map-append (lines_of base history) calls more
