use Rattle.txn_core.proofs.Dooming.{next_doomed, none_doomed}
use Rattle.txn_core.proofs.txns.Txns.doom.Goals as goal

pub loop-number-init : goal.loop-number-init
loop-number-init c = none_doomed c.args.names.now c.args.place c.args.self.now

pub loop-number-preserved : goal.loop-number-preserved
loop-number-preserved c =
    next_doomed c.args.names.now c.args.place c.args.self.now c.loop-number.self c.doom_session.new.self c.loop-number.number c.loop-number.auto.number c.loop-number.invariant
    c.doom_session.ensures.once_doomed c.doom_session.ensures.others
