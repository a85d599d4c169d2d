use denote.Param.Send.{IsSend, sendable}
use Rattle.std.proofs.Crossing.{crosses}
use Rattle.turn_tests.specs.contracts.log.Log as Log
use Rattle.turn_model.proofs.Sent.{entry_send, passed_send}
use Rattle.turn_tests.proofs.tables.look_and_commit.Goals as goal

log_send : IsSend Log.the_row
log_send = search (sendable, crosses, entry_send) depth 20

pub look_beside-one-requires-send-T : goal.look_beside-one-requires-send-T
look_beside-one-requires-send-T g c κs within = passed_send _ _ _ log_send
