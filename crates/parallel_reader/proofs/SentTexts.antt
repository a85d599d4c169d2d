-- A text that is to be read may be sent to another thread.
use denote.Param.Send.{IsSend, sendable}
use denote.Ref.{NamedLft}
use Rattle.own_base.proofs.number.SessionNo.TheSendSync as session
use Rattle.turn_model.proofs.Sent.{request_field_send}
use Rattle.parallel_reader.specs.contracts.unread.Unread as Unread

pub unread_send : (κ : NamedLft) → IsSend (Unread.the_row κ)
unread_send κ = search (sendable, session.the_field_send, request_field_send) depth 20
