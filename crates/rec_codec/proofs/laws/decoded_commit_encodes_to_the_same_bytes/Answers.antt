use Rattle.std.proofs.Common.{length, ap, sym}
use Rattle.disk_model.proofs.Spelled.{payload-spelled}
use Rattle.rec_codec.proofs.FramedCommits.{same_bytes}
use Rattle.rec_codec.proofs.ShortPayloads.{encodable}
use Rattle.rec_codec.proofs.laws.decoded_commit_encodes_to_the_same_bytes.Goals as goal

pub returns-clause-encodable : goal.returns-clause-encodable
returns-clause-encodable c = λ commit payload is. encodable commit (payload-spelled commit payload is).1

pub returns-clause-length : goal.returns-clause-length
returns-clause-length c = λ commit payload is. ap length (sym (payload-spelled commit payload is).0)

pub returns-clause-bytes : goal.returns-clause-bytes
returns-clause-bytes c = same_bytes
