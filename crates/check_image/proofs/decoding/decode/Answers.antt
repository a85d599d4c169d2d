use Rattle.std.proofs.Common.{arith}
use Rattle.disk_fields.proofs.ReadNumbers.{are_bytes}
use Rattle.check_image.proofs.ReadImage.{image-found, image-none}
use Rattle.check_image.proofs.decoding.decode.Goals as goal

pub returns-in-Ok : goal.returns-in-Ok
returns-in-Ok c = image-found c.args.bytes.now c.in-Ok.image (are_bytes c.args.bytes.now (λ i. omega (arith, c.type_inv.bytes i))) c.in-Ok.ensures

pub returns-in-Err-Malformed : goal.returns-in-Err-Malformed
returns-in-Err-Malformed c = image-none c.args.bytes.now (rw c.in-Err-Malformed.field-0-is at c.in-Err-Malformed.ensures)
