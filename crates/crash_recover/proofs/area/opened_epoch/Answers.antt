use Rattle.std.proofs.Common.{arith}
use Rattle.std.proofs.lemmas.List.{take_rest}
use Rattle.disk_fields.proofs.ReadNumbers.{are_bytes}
use Rattle.crash_recover.proofs.ReadParts.{no_number}
use Rattle.crash_recover.proofs.area.opened_epoch.Goals as goal

pub returns-in_err-epoch-clause-none : goal.returns-in_err-epoch-clause-none
returns-in_err-epoch-clause-none c =
    rw c.from_residual.ensures (λ opened. no_number c.args.bytes.now (are_bytes c.args.bytes.now (λ i. omega (arith, c.type_inv.bytes i))) opened (rw (take_rest c.args.bytes.now 1) at c.in_err-epoch.ensures.none))
