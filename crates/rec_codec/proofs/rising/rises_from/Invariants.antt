use Rattle.std.proofs.Common.{◌≡◌, drop}
use Rattle.rec_codec.specs.Reading.{rises_from}
use Rattle.rec_codec.proofs.rising.rises_from.Given as goal

abbrev pub invariant-loop-put : goal.invariant-loop-put
invariant-loop-put l = rises_from l.last (drop l.put-index l.puts) ≡ rises_from l.first l.puts
