use Rattle.sql_reader.proofs.Scripts.Scanning.{scanned_stretch}
use Rattle.sql_reader.proofs.stretch.next_stretch.Goals as goal

pub returns : goal.returns
returns c = scanned_stretch c.args.text.now c.args.from c.scan-found.result c.range.result c.scan-found.ensures c.range.ensures.value
