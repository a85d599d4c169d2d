-- The calls of a script may be sent to another thread, and lent to others.
use denote.Param.Send.{IsSend, IsSync, sendable}
use Rattle.own_base.proofs.list.List.TheSendSync as list
use Rattle.own_base.proofs.number.SessionNo.TheSendSync as session
use Rattle.own_model.specs.contracts.script.Script as Script
use Rattle.own_model.specs.contracts.script.ScriptCall as ScriptCall
use Rattle.own_model.specs.contracts.script.SessionCalls as SessionCalls
use Rattle.turn_model.proofs.Sent.{request_field_send, request_field_sync, request_send, request_sync}

-- a call of a script
pub call_send : IsSend ScriptCall.the_row
call_send = search (sendable, session.the_field_send, request_field_send) depth 20

pub call_sync : IsSync ScriptCall.the_row
call_sync = search (sendable, session.the_field_sync, request_field_sync) depth 20

-- a script
pub script_send : IsSend Script.the_row
script_send = search (sendable, list.the_send, call_send) depth 20

pub script_sync : IsSync Script.the_row
script_sync = search (sendable, list.the_sync, call_sync) depth 20

-- the calls of one session
pub session_send : IsSend SessionCalls.the_row
session_send = search (sendable, list.the_send, session.the_field_send, request_send) depth 20

pub session_sync : IsSync SessionCalls.the_row
session_sync = search (sendable, list.the_sync, session.the_field_sync, request_sync) depth 20
