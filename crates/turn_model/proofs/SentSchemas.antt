-- A schema, and what a statement is bound to in it, may be sent to another thread, and lent to others.
use denote.Param.Send.{IsSend, IsSync, sendable}
use denote.Struct.Field.{bool-field}
use Rattle.own_base.proofs.boxed.Boxed.TheSendSync as boxed
use Rattle.own_base.proofs.list.List.TheSendSync as list
use Rattle.own_base.proofs.number.ColNo.TheSendSync as col
use Rattle.own_base.proofs.number.TableNo.TheSendSync as no
use Rattle.own_base.proofs.row.Row.TheSendSync as row
use Rattle.own_base.proofs.text.Name.TheSendSync as name
use Rattle.own_base.proofs.value.Key.TheSendSync as key
use Rattle.own_model.specs.contracts.bound.Bound as Bound
use Rattle.own_model.specs.contracts.bound.BoundCond as BoundCond
use Rattle.own_model.specs.contracts.bound.BoundSelect as BoundSelect
use Rattle.own_model.specs.contracts.schema.Schema as Schema
use Rattle.own_model.specs.contracts.schema.ViewDef as ViewDef
use Rattle.own_model.proofs.bound.BoundCond.TheLaws.TheKnot.{send-BoundCond, sync-BoundCond}
use Rattle.own_model.proofs.bound.BoundExpr.TheSendSync as expr
use Rattle.own_model.proofs.bound.BoundItem.TheSendSync as item
use Rattle.own_model.proofs.bound.BoundOperand.TheSendSync as operand
use Rattle.own_model.proofs.bound.Source1.TheSendSync as source
use Rattle.own_model.proofs.condition.Cmp.TheSendSync as cmp
use Rattle.own_model.proofs.schema.Edge.TheSendSync as edge
use Rattle.own_model.proofs.schema.Kind.TheSendSync as kind
use Rattle.own_model.proofs.schema.TableDef.TheSendSync as table

bool_send : IsSend bool-field.row
bool_send = search sendable

bool_sync : IsSync bool-field.row
bool_sync = search sendable

bound_cond_field_send : IsSend (BoundCond.the_field).row
bound_cond_field_send = send-BoundCond list.the_send boxed.the_send col.the_field_send cmp.the_field_send operand.the_field_send bool_send

bound_cond_field_sync : IsSync (BoundCond.the_field).row
bound_cond_field_sync = sync-BoundCond list.the_sync boxed.the_sync col.the_field_sync cmp.the_field_sync operand.the_field_sync bool_sync

-- conditions over columns by number
pub bound_cond_send : IsSend BoundCond.the_row
bound_cond_send = search (sendable, bound_cond_field_send) depth 3

pub bound_cond_sync : IsSync BoundCond.the_row
bound_cond_sync = search (sendable, bound_cond_field_sync) depth 3

-- bound selects
bound_select_field_send : IsSend (BoundSelect.the_field).row
bound_select_field_send = search (sendable, source.the_field_send, list.the_send, item.the_send, bound_cond_send, col.the_send) depth 20

bound_select_field_sync : IsSync (BoundSelect.the_field).row
bound_select_field_sync = search (sendable, source.the_field_sync, list.the_sync, item.the_sync, bound_cond_sync, col.the_sync) depth 20

pub bound_select_send : IsSend BoundSelect.the_row
bound_select_send = search (sendable, bound_select_field_send) depth 3

pub bound_select_sync : IsSync BoundSelect.the_row
bound_select_sync = search (sendable, bound_select_field_sync) depth 3

-- views
pub view_def_send : IsSend ViewDef.the_row
view_def_send = search (sendable, name.the_send, list.the_send, kind.the_send, bound_select_field_send) depth 20

pub view_def_sync : IsSync ViewDef.the_row
view_def_sync = search (sendable, name.the_sync, list.the_sync, kind.the_sync, bound_select_field_sync) depth 20

-- schemas
pub schema_send : IsSend Schema.the_row
schema_send = search (sendable, list.the_send, table.the_send, view_def_send, edge.the_send) depth 20

pub schema_sync : IsSync Schema.the_row
schema_sync = search (sendable, list.the_sync, table.the_sync, view_def_sync, edge.the_sync) depth 20

-- bound statements
ruleset in_send = (sendable, bound_select_field_send, no.the_field_send, list.the_send, row.the_send, col.the_send, expr.the_send, bound_cond_send, key.the_field_send)

ruleset in_sync = (sendable, bound_select_field_sync, no.the_field_sync, list.the_sync, row.the_sync, col.the_sync, expr.the_sync, bound_cond_sync, key.the_field_sync)

pub bound_send : IsSend Bound.the_row
bound_send = search in_send depth 20

pub bound_sync : IsSync Bound.the_row
bound_sync = search in_sync depth 20
