use Rattle.query_model.specs.Footprints.{footprint_of}
use Rattle.row_locks.specs.RepresentsItems.{holder_among}
use Rattle.row_locks.specs.SessionItems.{items_by}
use Rattle.state_tests.proofs.KeptStores.{store}
use Rattle.state_tests.proofs.Readiness.{ready-stated}
use Rattle.state_tests.proofs.sessions.reply_to_statement.Goals as goal

pub statement-requires-clause-store : goal.statement-requires-clause-store
statement-requires-clause-store g c = store (g.V.StoreView.db c.args.version.now) c.requires.sound

pub statement-requires-clause-space : goal.statement-requires-clause-space
statement-requires-clause-space g c = (c.requires.ready c.args.session.0).space

pub statement-requires-clause-rows : goal.statement-requires-clause-rows
statement-requires-clause-rows g c = (c.requires.ready c.args.session.0).shows.rows

pub statement-requires-clause-quiet : goal.statement-requires-clause-quiet
statement-requires-clause-quiet g c = (c.requires.ready c.args.session.0).quiet

pub returns-in-Ok : goal.returns-in-Ok
returns-in-Ok g c =
    let db = g.V.StoreView.db c.args.version.now in
    ready-stated db c.args.bound.now c.requires.well_formed c.args.session.0 c.args.txns.now c.statement.new.self c.in-Ok.reply c.requires.ready
    (holder_among (items_by c.args.txns.now.held) c.args.session.0 (footprint_of db.schema c.args.bound.now)) c.in-Ok.ensures.ok

-- where it is refused, and not for want of memory, it ran
pub returns-in-Err : goal.returns-in-Err
returns-in-Err g c =
    ready-stated (g.V.StoreView.db c.args.version.now) c.args.bound.now c.requires.well_formed c.args.session.0 c.args.txns.now c.statement.new.self _ c.requires.ready _ (c.in-Err.ensures.err c.refused.ensures)
