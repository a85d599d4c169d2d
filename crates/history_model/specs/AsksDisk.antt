-- Whether an entry's answer is the disk's to give.
use Rattle.std.specs.Prelude.{Bool}
use Rattle.own_model.specs.declared.history.Entry.{Entry}
use Rattle.own_model.specs.declared.history.Verdict.{Verdict}
use Rattle.own_model.specs.declared.history.Verdict.TheVariants.{DiskFault}
use Rattle.history_model.specs.History.{is_disk}
use Rattle.history_model.specs.Reply.{answer}
use Rattle.history_model.specs.World.{World}

-- an entry of which the disk said this
abbrev pub under : Verdict → Entry → Entry
under verdict entry = record entry { verdict = verdict }

-- whether a fault of the disk would be the entry's answer
unfoldable pub asks_disk : World → Entry → Bool
asks_disk world entry = is_disk (answer world (under DiskFault entry))
