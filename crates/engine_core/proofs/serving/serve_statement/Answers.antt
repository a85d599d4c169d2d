use Rattle.std.proofs.Common.{◌∙◌, subst, sym}
use Rattle.history_model.specs.History.{world}
use Rattle.engine_core.specs.RepresentsWorld.{Serves}
use Rattle.engine_core.specs.Stored.{Stores}
use Rattle.engine_core.proofs.LookEvents.{come-as, comes-if, no-look-changing, no-look-inside, served-as, stored-as}
use Rattle.engine_core.proofs.OpenStates.{sound-event, written-event}
use Rattle.engine_core.proofs.Stood.{kept-outside}
use Rattle.engine_core.proofs.serving.serve_statement.Goals as goal

-- in a transaction it is served, and is no look
pub returns-then-is_open-clause-served : goal.returns-then-is_open-clause-served
returns-then-is_open-clause-served g c =
    subst (λ told. Serves c.args.state.now.opened c.serve_inside.new.state c.args.history.now c.args.entry.now told) (sym c.replied.ensures.told) c.serve_inside.ensures.served

pub returns-then-is_open-clause-comes : goal.returns-then-is_open-clause-comes
returns-then-is_open-clause-comes g c =
    comes-if c.args.at_once (world c.args.state.now.opened c.args.history.now) c.args.entry.now c.replied.result c.replied.ensures.replied
    (c.replied.ensures.comes (world c.args.state.now.opened c.args.history.now) c.args.entry.now
    (no-look-inside c.args.history.now c.args.entry.now c.args.state.now c.requires.event (sym c.is_open.ensures ∙ c.if-is_open.true)))

-- outside one it comes to a look where it reads alone
pub read-requires-clause-sound : goal.read-requires-clause-sound
read-requires-clause-sound g c = sound-event c.args.history.now c.args.entry.now c.args.state.now c.requires.event

pub read-requires-clause-written : goal.read-requires-clause-written
read-requires-clause-written g c = written-event c.args.history.now c.args.entry.now c.args.state.now c.args.statement.now c.requires.event c.requires.asks

pub serve_outside-requires-clause-outside : goal.serve_outside-requires-clause-outside
serve_outside-requires-clause-outside g c = kept-outside _ c.requires.undoomed (sym c.is_open.ensures ∙ c.if-is_open.false)

pub returns-then-reads_alone-clause-served : goal.returns-then-reads_alone-clause-served
returns-then-reads_alone-clause-served g c =
    served-as c.args.history.now c.args.entry.now c.args.state.now c.requires.event (kept-outside _ c.requires.undoomed (sym c.is_open.ensures ∙ c.if-is_open.false)) c.args.statement.now c.requires.asks (sym c.if-reads_alone.ensures)
    c.args.at_once c.read.result c.read.ensures.read

pub returns-then-reads_alone-clause-stored : goal.returns-then-reads_alone-clause-stored
returns-then-reads_alone-clause-stored g c =
    let D = g.D.Disk in
    stored-as c.args.history.now c.args.entry.now c.args.state.now c.requires.event (kept-outside _ c.requires.undoomed (sym c.is_open.ensures ∙ c.if-is_open.false)) c.args.statement.now c.requires.asks (sym c.if-reads_alone.ensures)
    D.holds D.leaves D.moment D.might_have_left g.met.D.Disk.only_now D.honest D.faults c.args.store.now c.requires.store c.requires.took c.args.at_once c.read.result c.read.ensures.read

pub returns-then-reads_alone-clause-comes : goal.returns-then-reads_alone-clause-comes
returns-then-reads_alone-clause-comes g c =
    come-as c.args.history.now c.args.entry.now c.args.state.now c.requires.event (kept-outside _ c.requires.undoomed (sym c.is_open.ensures ∙ c.if-is_open.false)) c.args.statement.now c.requires.asks (sym c.if-reads_alone.ensures)
    c.args.at_once c.read.result c.read.ensures.read

pub returns-then-is_open-clause-stored : goal.returns-then-is_open-clause-stored
returns-then-is_open-clause-stored g c =
    let D = g.D.Disk in
    subst (λ told. Stores D.holds D.leaves D.moment D.might_have_left D.honest D.faults (world c.args.state.now.opened c.args.history.now) c.args.entry.now c.args.store.now told c.serve_inside.new.store)
    (sym c.replied.ensures.told) c.serve_inside.ensures.stored

-- and else it is served, and is no look
pub returns-clause-served : goal.returns-clause-served
returns-clause-served g c =
    subst (λ told. Serves c.args.state.now.opened c.serve_outside.new.state c.args.history.now c.args.entry.now told) (sym c.replied-2.ensures.told) c.serve_outside.ensures.served

pub returns-clause-stored : goal.returns-clause-stored
returns-clause-stored g c =
    let D = g.D.Disk in
    subst (λ told. Stores D.holds D.leaves D.moment D.might_have_left D.honest D.faults (world c.args.state.now.opened c.args.history.now) c.args.entry.now c.args.store.now told c.serve_outside.new.store)
    (sym c.replied-2.ensures.told) c.serve_outside.ensures.stored

pub returns-clause-comes : goal.returns-clause-comes
returns-clause-comes g c =
    comes-if c.args.at_once (world c.args.state.now.opened c.args.history.now) c.args.entry.now c.replied-2.result c.replied-2.ensures.replied
    (c.replied-2.ensures.comes (world c.args.state.now.opened c.args.history.now) c.args.entry.now
    (no-look-changing (world c.args.state.now.opened c.args.history.now) c.args.entry.now c.args.statement.now c.requires.asks (sym c.if-reads_alone.ensures)))
