use Rattle.history_model.proofs.EveryHistory.{serial-history}
use Rattle.engine_core.proofs.EngineStands.{alone-behind}
use Rattle.engine_core.proofs.engine.Engine.close.Goals as goal

pub returns-clause-serial : goal.returns-clause-serial
returns-clause-serial g c = rw c.from_vec.ensures (rw (← c.self.view_is) (serial-history _ _ c.self.invariant.0.begun c.self.invariant.0.entries))

pub returns-clause-exact : goal.returns-clause-exact
returns-clause-exact g c = rw c.from_vec.ensures (rw (← c.self.view_is) c.self.invariant.0.exact)

pub returns-clause-left : goal.returns-clause-left
returns-clause-left g c = rw (c.from_vec.ensures, c.close.ensures) (rw (← c.self.view_is) c.self.invariant.0.left)

pub returns-clause-moves : goal.returns-clause-moves
returns-clause-moves g c = rw (c.from_vec.ensures, c.close.ensures) (rw (← c.self.view_is) c.self.invariant.0.moves)

pub returns-clause-alone : goal.returns-clause-alone
returns-clause-alone g c =
    let D = g.D.Disk in
    let inside = c.self.inside in
    rw (c.from_vec.ensures, c.close.ensures) (rw (← c.self.view_is)
    (alone-behind D.holds D.leaves D.moment D.might_have_left D.honest D.faults g.met.D.Disk.only_now g.met.D.Disk.now_counts inside.start (record { epoch = inside.epoch; end = inside.end }) inside.state inside.store inside.down
    inside.history.items c.self.invariant.0))
