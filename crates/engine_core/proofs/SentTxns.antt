-- The transactions of the sessions may be sent to another thread.
use denote.Enum.Declared as enum
use denote.Param.Send.{IsSend, enum_send, sendable, struct_send}
use denote.Struct.Declared.{shape}
use Rattle.std.proofs.Crossing.{Vec-send}
use Rattle.own_base.proofs.list.List.TheSendSync as list
use Rattle.own_base.proofs.number.Place.TheSendSync as place
use Rattle.txn_space.proofs.entry.ByKey.TheSendSync as by_key
use Rattle.txn_space.proofs.entry.Entry.TheSendSync as entry
use Rattle.txn_space.specs.contracts.entry.Entry as Entry
use Rattle.txn_space.specs.contracts.space.Space as Space
use Rattle.row_locks.proofs.lock_table.LockTable.TheSendSync as locks
use Rattle.txn_core.specs.contracts.session_state.SessionState as SessionState
use Rattle.txn_core.specs.contracts.sessions.Sessions as Sessions
use Rattle.txn_core.specs.contracts.sessions.Sessions.TheInside as InsideSessions
use Rattle.txn_core.specs.contracts.txn.Txn as Txn
use Rattle.txn_core.specs.contracts.txns.Txns as Txns
use Rattle.txn_core.specs.contracts.txns.Txns.TheInside as InsideTxns
use Rattle.store_snapshot.proofs.SentPages.{pages_send}

-- what a transaction changes
space_send : IsSend Space.the_row
space_send = search (sendable, list.the_send, pages_send Entry.the_row entry.the_send entry.the_sync, by_key.the_send) depth 20

txn_field_send : IsSend (Txn.the_field).row
txn_field_send = search (sendable, space_send) depth 20

-- the state of each session
state_field_send : IsSend (SessionState.the_field).row
state_field_send = enum_send (enum.shape SessionState.the_type) (tt, ((txn_field_send, tt), ((place.the_field_send, tt), tt)))

state_send : IsSend SessionState.the_row
state_send = search (sendable, state_field_send) depth 3

sessions_inside_send : IsSend (InsideSessions.the_field).row
sessions_inside_send = struct_send (shape InsideSessions.the_type) (Vec-send SessionState.the_row state_send, tt)

sessions_send : IsSend Sessions.the_row
sessions_send = search (sendable, sessions_inside_send) depth 5

-- and what they hold
txns_inside_send : IsSend (InsideTxns.the_field).row
txns_inside_send = struct_send (shape InsideTxns.the_type) (sessions_send, (locks.the_send, tt))

pub txns_send : IsSend Txns.the_row
txns_send = search (sendable, txns_inside_send) depth 5
