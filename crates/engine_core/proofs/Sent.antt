-- An engine may be sent to another thread, where its disk may.
use denote.RattleType.{RattleType}
use denote.Param.Send.{IsSend, sendable, struct_send}
use denote.Struct.Declared.{shape}
use Rattle.std.proofs.Crossing.{Vec-send, crosses}
use Rattle.own_base.proofs.number.Place.TheSendSync as place
use Rattle.own_model.specs.contracts.history.Entry as Entry
use Rattle.outer_world.specs.declared.disk.Disk.{Ghosts}
use Rattle.turn_model.proofs.Sent.{entry_send}
use Rattle.store_disk.proofs.store_disk.StoreDisk.TheSendSync as store
use Rattle.store_snapshot.proofs.Sent.{snapshot_send}
use Rattle.store_snapshot.proofs.SentVersion.{version_send}
use Rattle.engine_core.specs.contracts.engine.Engine as Engine
use Rattle.engine_core.specs.contracts.engine.Engine.TheInside as Inside
use Rattle.engine_core.specs.contracts.state.State as State
use Rattle.engine_core.proofs.SentTxns.{txns_send}

state_send : IsSend (State.the_field).row
state_send = struct_send (shape State.the_type) (snapshot_send, (version_send, (search sendable, (txns_send, tt))))

module _ (D : RattleType) (g : Ghosts D.Denot) (sent : IsSend D) where
  inside_send : IsSend (Inside.the_field D g).row
  inside_send =
      struct_send (shape (Inside.the_type D g))
      (search sendable, (state_send, (search (sendable, snapshot_send) depth 5, (Vec-send Entry.the_row entry_send, (store.the_field_send D sent, (search (sendable, crosses) depth 5, (search sendable, (search sendable, (search sendable, (search (sendable, place.the_send) depth 20, tt))))))))))

  pub engine_send : IsSend (Engine.the_row D g)
  engine_send = search (sendable, inside_send) depth 5
