use Rattle.disk_model.proofs.OneValue.{image}
use Rattle.check_image.proofs.laws.bytes_are_one_image.Goals as goal

pub returns : goal.returns
returns c = λ bytes one other. image one other bytes
