use Rattle.std.proofs.Common.{ap}
use Rattle.outer_world.specs.MemDisk.{DiskState}
use Rattle.disk_tests.proofs.FreshDisks.{fresh_synced}
use Rattle.disk_tests.proofs.journals.disk_of.Goals as goal

pub returns : goal.returns
returns g c = fresh_synced c.crash.result (ap (λ (disk : DiskState). disk.calls) c.crash.ensures)
