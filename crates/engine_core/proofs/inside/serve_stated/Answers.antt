use Rattle.std.proofs.Common.{refl}
use Rattle.state_model.proofs.CreatedSchema.{views_within-created}
use Rattle.readable_model.proofs.Within.{statement_within}
use Rattle.txn_core.proofs.Statements.{none_moved}
use Rattle.engine_core.proofs.BoundStatements.{row-bound}
use Rattle.engine_core.proofs.CalmEvents.{stands-kept}
use Rattle.engine_core.proofs.OpenStates.{rows-event, serves-either, sound-event, store-event, written-event}
use Rattle.engine_core.proofs.StatedEvents.{serves-stated, serves-unbound, unasked-stated}
use Rattle.engine_core.proofs.UnmadeEvents.{unmade-within}
use Rattle.engine_core.proofs.inside.serve_stated.Goals as goal

pub bind-requires-clause-views : goal.bind-requires-clause-views
bind-requires-clause-views c =
    let sound = sound-event c.args.history.now c.args.entry.now c.args.state.now c.requires.event in
    rw (c.schema.ensures.same, c.catalog.ensures.schema) (views_within-created c.args.state.now.version sound.well_formed.created)

pub bind-requires-clause-statement : goal.bind-requires-clause-statement
bind-requires-clause-statement c =
    statement_within c.args.statement.now (written-event c.args.history.now c.args.entry.now c.args.state.now c.args.statement.now c.requires.event c.requires.asks)

pub statement-replied-requires-clause-store : goal.statement-replied-requires-clause-store
statement-replied-requires-clause-store c = store-event c.args.history.now c.args.entry.now c.args.state.now c.requires.event

pub statement-replied-requires-clause-rows : goal.statement-replied-requires-clause-rows
statement-replied-requires-clause-rows c = rows-event c.args.history.now c.args.entry.now c.args.state.now c.requires.event c.requires.open

pub statement-replied-requires-clause-bound : goal.statement-replied-requires-clause-bound
statement-replied-requires-clause-bound c =
    row-bound c.args.state.now.version.schema c.args.statement.now c.in-Ok.bound c.requires.takes (rw (c.schema.ensures.same, c.catalog.ensures.schema) at c.in-Ok.ensures.ok)

-- what is kept shows the views of a sound store
pub statement-replied-requires-clause-views : goal.statement-replied-requires-clause-views
statement-replied-requires-clause-views c = ((sound-event c.args.history.now c.args.entry.now c.args.state.now c.requires.event).well_formed, c.views.ensures)

-- the rows are in key order
pub invariant_of-shown : goal.invariant_of-shown
invariant_of-shown c = record { ordered = (sound-event c.args.history.now c.args.entry.now c.args.state.now c.requires.event).well_formed.ordered }

-- it ran, or met a conflict
pub returns-in-Ok-replied-clause-served : goal.returns-in-Ok-replied-clause-served
returns-in-Ok-replied-clause-served c =
    serves-stated c.args.history.now c.args.entry.now c.args.state.now _ c.requires.event refl refl c.requires.open c.args.statement.now c.requires.asks c.requires.takes c.in-Ok.bound c.in-Ok-replied.reply
    (rw (c.schema.ensures.same, c.catalog.ensures.schema) at c.in-Ok.ensures.ok) c.in-Ok-replied.ensures.ok

pub returns-in-Err-replied-clause-served : goal.returns-in-Err-replied-clause-served
returns-in-Err-replied-clause-served c =
    serves-either c.args.state.now.opened c.args.history.now c.args.entry.now _ c.in-Err-replied.why c.refused.result c.refused.ensures.told c.refused.ensures.memory
    (λ other. serves-stated c.args.history.now c.args.entry.now c.args.state.now _ c.requires.event refl refl c.requires.open c.args.statement.now c.requires.asks c.requires.takes c.in-Ok.bound _
    (rw (c.schema.ensures.same, c.catalog.ensures.schema) at c.in-Ok.ensures.ok) (c.in-Err-replied.ensures.err other))
    (λ memory e. (
      stands-kept c.args.state.now _ _ refl refl (c.in-Err-replied.ensures.unmade memory) c.requires.event.stands,
      unmade-within c.args.history.now c.args.entry.now c.args.state.now c.requires.event c.requires.open c.args.statement.now c.requires.asks c.requires.takes,
    ))

-- binding refuses it
pub returns-in-Err-clause-served : goal.returns-in-Err-clause-served
returns-in-Err-clause-served c =
    serves-either c.args.state.now.opened c.args.history.now c.args.entry.now c.args.state.now c.in-Err.why c.refused-in-Err.result c.refused-in-Err.ensures.told c.refused-in-Err.ensures.memory
    (λ other. serves-unbound c.args.history.now c.args.entry.now c.args.state.now c.args.state.now c.requires.event refl refl c.requires.open c.args.statement.now c.requires.asks c.requires.takes c.in-Err.why
    (rw (c.schema.ensures.same, c.catalog.ensures.schema) at (c.in-Err.ensures.err other)) (none_moved c.args.state.now.txns))
    (λ memory e. (
      c.requires.event.stands,
      unmade-within c.args.history.now c.args.entry.now c.args.state.now c.requires.event c.requires.open c.args.statement.now c.requires.asks c.requires.takes,
    ))

-- none of these asks the disk
pub returns-in-Ok-replied-clause-unasked : goal.returns-in-Ok-replied-clause-unasked
returns-in-Ok-replied-clause-unasked c = unasked-stated c.args.history.now c.args.entry.now c.args.state.now c.requires.event c.requires.open c.args.statement.now c.requires.asks c.requires.takes

pub returns-in-Err-replied-clause-unasked : goal.returns-in-Err-replied-clause-unasked
returns-in-Err-replied-clause-unasked c = unasked-stated c.args.history.now c.args.entry.now c.args.state.now c.requires.event c.requires.open c.args.statement.now c.requires.asks c.requires.takes

pub returns-in-Err-clause-unasked : goal.returns-in-Err-clause-unasked
returns-in-Err-clause-unasked c = unasked-stated c.args.history.now c.args.entry.now c.args.state.now c.requires.event c.requires.open c.args.statement.now c.requires.asks c.requires.takes
