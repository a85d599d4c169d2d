-- What a history holds may be sent to another thread, and lent to others.
use denote.RattleType.{RattleType}
use denote.Exit.{no}
use denote.Param.{arg, param}
use denote.Param.Send.{IsSend, IsSync, arg_send, enum_send, enum_sync, param_send, sendable}
use Prim.Native.Nat.{ℕ}
use denote.Enum.Declared.{shape}
use denote.Struct.Field.{bool-field}
use mir.Syntax.{Ty}
use Rattle.own_base.proofs.boxed.Boxed.TheSendSync as boxed
use Rattle.own_base.proofs.list.List.TheSendSync as list
use Rattle.own_base.proofs.number.SessionNo.TheSendSync as session
use Rattle.own_base.proofs.text.Name.TheSendSync as name
use Rattle.own_base.proofs.value.Key.TheSendSync as key
use Rattle.own_base.proofs.value.Value.TheSendSync as value
use Rattle.own_model.specs.contracts.condition.Cond as Cond
use Rattle.own_model.specs.contracts.create.CreateView as CreateView
use Rattle.own_model.specs.contracts.history.Entry as Entry
use Rattle.own_model.specs.contracts.request.Request as Request
use Rattle.own_model.specs.contracts.select.Select as Select
use Rattle.own_model.specs.contracts.statement.Statement as Statement
use Rattle.own_model.proofs.condition.Cmp.TheSendSync as cmp
use Rattle.own_model.proofs.condition.Cond.TheLaws.TheKnot.{send-Cond, sync-Cond}
use Rattle.own_model.proofs.condition.Operand.TheSendSync as operand
use Rattle.own_model.proofs.create.CreateTable.TheSendSync as table
use Rattle.own_model.proofs.expression.Expr.TheSendSync as expr
use Rattle.own_model.proofs.history.Verdict.TheSendSync as verdict
use Rattle.own_model.proofs.limit.LimitName.TheSendSync as limit
use Rattle.own_model.proofs.select.ColRef.TheSendSync as col
use Rattle.own_model.proofs.select.Items.TheSendSync as items
use Rattle.own_model.proofs.select.Join.TheSendSync as join
use Rattle.own_model.proofs.select.Order.TheSendSync as order

bool_send : IsSend bool-field.row
bool_send = search sendable

bool_sync : IsSync bool-field.row
bool_sync = search sendable

cond_field_send : IsSend (Cond.the_field).row
cond_field_send = send-Cond list.the_send boxed.the_send col.the_field_send cmp.the_field_send operand.the_field_send bool_send

cond_field_sync : IsSync (Cond.the_field).row
cond_field_sync = sync-Cond list.the_sync boxed.the_sync col.the_field_sync cmp.the_field_sync operand.the_field_sync bool_sync

-- conditions
pub cond_send : IsSend Cond.the_row
cond_send = search (sendable, cond_field_send) depth 3

pub cond_sync : IsSync Cond.the_row
cond_sync = search (sendable, cond_field_sync) depth 3

-- selects
select_field_send : IsSend (Select.the_field).row
select_field_send = search (sendable, boxed.the_send, cond_send, name.the_send, items.the_field_send, join.the_field_send, col.the_field_send, order.the_field_send) depth 20

select_field_sync : IsSync (Select.the_field).row
select_field_sync = search (sendable, boxed.the_sync, cond_sync, name.the_sync, items.the_field_sync, join.the_field_sync, col.the_field_sync, order.the_field_sync) depth 20

pub select_send : IsSend Select.the_row
select_send = search (sendable, select_field_send) depth 3

pub select_sync : IsSync Select.the_row
select_sync = search (sendable, select_field_sync) depth 3

-- a view as it is created
pub view_send : IsSend CreateView.the_row
view_send = search (sendable, name.the_send, select_field_send) depth 20

pub view_sync : IsSync CreateView.the_row
view_sync = search (sendable, name.the_sync, select_field_sync) depth 20

-- statements, of what stands in them
ruleset in_send = (sendable, table.the_field_send, boxed.the_send, list.the_send, name.the_send, value.the_send, key.the_field_send, expr.the_field_send, cond_send, select_send, view_send)

ruleset in_sync = (sendable, table.the_field_sync, boxed.the_sync, list.the_sync, name.the_sync, value.the_sync, key.the_field_sync, expr.the_field_sync, cond_sync, select_sync, view_sync)

statement_field_send : IsSend (Statement.the_field).row
statement_field_send = enum_send (shape Statement.the_type) (search in_send depth 40)

statement_field_sync : IsSync (Statement.the_field).row
statement_field_sync = enum_sync (shape Statement.the_type) (search in_sync depth 40)

pub statement_send : IsSend Statement.the_row
statement_send = search (sendable, statement_field_send) depth 3

pub statement_sync : IsSync Statement.the_row
statement_sync = search (sendable, statement_field_sync) depth 3

-- requests
pub request_field_send : IsSend (Request.the_field).row
request_field_send = search (sendable, boxed.the_send, limit.the_field_send, statement_send) depth 20

pub request_field_sync : IsSync (Request.the_field).row
request_field_sync = search (sendable, boxed.the_sync, limit.the_field_sync, statement_sync) depth 20

pub request_send : IsSend Request.the_row
request_send = search (sendable, request_field_send) depth 3

pub request_sync : IsSync Request.the_row
request_sync = search (sendable, request_field_sync) depth 3

-- entries of a history
pub entry_send : IsSend Entry.the_row
entry_send = search (sendable, session.the_field_send, verdict.the_field_send, request_field_send) depth 20

pub entry_sync : IsSync Entry.the_row
entry_sync = search (sendable, session.the_field_sync, verdict.the_field_sync, request_field_sync) depth 20

-- what is passed on as a type argument
pub passed_send : (i : ℕ) (δ : Ty) (R : RattleType) → IsSend R → IsSend (param i (arg δ no R))
passed_send i δ R sent = param_send i (arg δ no R) (arg_send δ no R sent)
