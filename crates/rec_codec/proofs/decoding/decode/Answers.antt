use Rattle.std.proofs.Common.{arith}
use Rattle.disk_fields.proofs.ReadNumbers.{are_bytes}
use Rattle.rec_codec.proofs.ReadPayload.{payload-found, payload-none}
use Rattle.rec_codec.proofs.decoding.decode.Goals as goal

pub returns-in-Ok : goal.returns-in-Ok
returns-in-Ok c = payload-found c.args.payload.now c.in-Ok.commit (are_bytes c.args.payload.now (λ i. omega (arith, c.type_inv.payload i))) c.in-Ok.ensures

pub returns-in-Err-Malformed : goal.returns-in-Err-Malformed
returns-in-Err-Malformed c = payload-none c.args.payload.now (rw c.in-Err-Malformed.field-0-is at c.in-Err-Malformed.ensures)
