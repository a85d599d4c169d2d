use Rattle.std.proofs.lemmas.List.{take_rest}
use Rattle.crash_recover.proofs.ReadParts.{no_epoch}
use Rattle.crash_recover.proofs.area.lawful_epoch.Goals as goal

pub returns-in_err-epoch-clause-none : goal.returns-in_err-epoch-clause-none
returns-in_err-epoch-clause-none c = rw c.from_residual.ensures (no_epoch c.args.bytes.now (rw (take_rest c.args.bytes.now 1) at c.in_err-epoch.ensures.none))
