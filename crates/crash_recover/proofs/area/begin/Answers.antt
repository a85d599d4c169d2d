use Rattle.disk_model.proofs.Spelled.{image-spelled}
use Rattle.crash_recover.proofs.ReadParts.{unlawful_image}
use Rattle.crash_recover.proofs.area.begin.Goals as goal

pub returns-in_default : goal.returns-in_default
returns-in_default c = λ image db begun. (rw c.in_default.is at c.in_ok-image.ensures) image begun.is_image

pub of_image-requires : goal.of_image-requires
of_image-requires c = (image-spelled c.in-Some.image c.args.bytes.now (rw c.in-Some.is at c.in_ok-image.ensures)).1

pub returns-in-None : goal.returns-in-None
returns-in-None c = unlawful_image c.args.bytes.now c.in-Some.image (rw c.in-Some.is at c.in_ok-image.ensures) (rw c.in-None.is at c.in_ok-state.ensures)
