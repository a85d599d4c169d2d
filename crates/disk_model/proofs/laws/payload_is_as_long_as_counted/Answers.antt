use Rattle.disk_model.proofs.PayloadLength.{payload-length}
use Rattle.disk_model.proofs.laws.payload_is_as_long_as_counted.Goals as goal

pub returns : goal.returns
returns c = payload-length
