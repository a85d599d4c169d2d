use Rattle.std.proofs.Common.{arith, length, refl, ◌+◌}
use Rattle.std.proofs.lemmas.Result.{err_from_is_err_and}
use Rattle.crash_recover.specs.AreaFound.{IsAreaDamaged}
use Rattle.crash_recover.specs.Records.{IsBrokenBehind}
use Rattle.crash_recover.proofs.Faults.{fault_weaker}
use Rattle.crash_recover.proofs.FoundAreas.{area_long, damaged_image, damaged_length, damaged_record, store_found}
use Rattle.crash_recover.proofs.area.store_in.Goals as goal

pub returns-in_default-image_of : goal.returns-in_default-image_of
returns-in_default-image_of c = damaged_length c.args.area c.args.bytes.now c.in-Some.epoch c.in-Some.sized.now c.in-Some.ensures.some c.in_default-image_of.ensures.none

pub returns-in_default-2 : goal.returns-in_default-2
returns-in_default-2 c =
    damaged_image c.args.area c.args.bytes.now c.in-Some.epoch c.in-Some.sized.now c.in-Some-image_of.content.now c.in-Some-image_of.records.now c.in-Some.ensures.some c.in-Some-image_of.ensures.some
    (rw c.in_default-2.is at c.in_ok-image.ensures)

pub returns-in_err-commits : goal.returns-in_err-commits
returns-in_err-commits c =
    let p = err_from_is_err_and c.from_residual-in_err-commits.result c.from_residual-in_err-commits.ensures.1 in
    let bytes = c.args.bytes.now in
    let content = c.in-Some-image_of.content.now in
    let records = c.in-Some-image_of.records.now in
    rw (p.1, p.2)
    (fault_weaker (IsBrokenBehind c.in-Some-2.state (17 + length content) records) (IsAreaDamaged c.args.area bytes) c.in_err-commits.field-0.0
    (λ offset broken. damaged_record c.args.area bytes c.in-Some.epoch c.in-Some.sized.now content records c.in-Some-2.image c.in-Some-2.state offset c.in-Some.ensures.some c.in-Some-image_of.ensures.some
    (rw c.in-Some-2.is at c.in_ok-image.ensures) broken)
    c.in_err-commits.ensures)

pub returns : goal.returns
returns c = (
  refl,
  store_found c.args.bytes.now c.in-Some.epoch c.in-Some.sized.now c.in-Some-image_of.content.now c.in-Some-image_of.records.now c.in-Some-2.image c.in-Some-2.state c.records_from.new.state c.in_ok-commits.commits c.in_ok-commits.end
      c.requires c.in-Some.ensures.some c.in-Some-image_of.ensures.some (rw c.in-Some-2.is at c.in_ok-image.ensures) c.in_ok-commits.ensures,
)

pub records_from-requires-clause-room : goal.records_from-requires-clause-room
records_from-requires-clause-room c =
    let long = area_long c.args.bytes.now c.in-Some.epoch c.in-Some.sized.now c.in-Some-image_of.content.now c.in-Some-image_of.records.now c.in-Some.ensures.some c.in-Some-image_of.ensures.some in
    let most = c.type_inv.bytes in
    omega arith
