-- A worker's job may be sent to another thread.
use denote.Param.Send.{IsSend, sendable, struct_send}
use denote.Struct.Declared.{shape}
use Rattle.std.proofs.Crossing.{Vec-send}
use Rattle.own_base.proofs.list.List.TheSendSync as list
use Rattle.own_base.proofs.number.SessionNo.TheSendSync as session
use Rattle.own_model.specs.contracts.script.SessionCalls as SessionCalls
use Rattle.turn_model.proofs.Sent.{request_send}
use Rattle.commit_turn.proofs.pass.Pass.TheSendSync as pass
use Rattle.session_run.proofs.replies.Told.TheSendSync as told
use Rattle.session_run.specs.contracts.replies.Told as Told
use Rattle.session_run.specs.contracts.sessions.Job as Job
use Rattle.session_run.specs.contracts.sessions.Plan as Plan

session_send : IsSend (SessionCalls.the_field).row
session_send = search (sendable, list.the_send, session.the_field_send, request_send) depth 20

plan_send : IsSend (Plan.the_field).row
plan_send = struct_send (shape Plan.the_type) (session_send, (Vec-send Told.the_row told.the_send, tt))

job_field_send : IsSend (Job.the_field).row
job_field_send = struct_send (shape Job.the_type) (plan_send, (pass.the_field_send, tt))

pub job_send : IsSend Job.the_row
job_send = search (sendable, job_field_send) depth 5
