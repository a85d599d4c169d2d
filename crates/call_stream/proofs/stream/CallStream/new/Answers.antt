use Rattle.std.proofs.Common.{refl, sym, ap, ◌∙◌, length}
use Rattle.call_stream.proofs.Starting.{sound_new, taken_new}
use Rattle.call_stream.proofs.stream.CallStream.new.Goals as goal

pub returns-clause-sound : goal.returns-clause-sound
returns-clause-sound c = sound_new _ (record { held_is = c.new-held.ensures.items; from_is = refl; scanned = c.new-scan.ensures.scanned; begins = c.new-scan.ensures.begins; before_is = refl; lines_are = refl; session_is = refl; counted = c.no_counts-counts.ensures })

pub returns-clause-taken : goal.returns-clause-taken
returns-clause-taken c = taken_new _ (record { held_is = c.new-held.ensures.items; from_is = refl; scanned = c.new-scan.ensures.scanned; begins = c.new-scan.ensures.begins; before_is = refl; lines_are = refl; session_is = refl; counted = c.no_counts-counts.ensures })

pub returns-clause-read : goal.returns-clause-read
returns-clause-read c = c.new-scan.ensures.at ∙ sym (ap length c.new-held.ensures.items)
