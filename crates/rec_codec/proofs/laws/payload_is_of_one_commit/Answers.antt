use Rattle.disk_model.proofs.OneValue.{payload}
use Rattle.rec_codec.proofs.laws.payload_is_of_one_commit.Goals as goal

pub returns : goal.returns
returns c = λ bytes one other. payload one other bytes
