use Rattle.std.proofs.lemmas.Result.{IfErr-weaker, IfOk-weaker}
use Rattle.history_model.specs.History.{world}
use Rattle.write_eval.proofs.StoredTables.{stored_tables}
use Rattle.engine_core.proofs.Writes.{free-kept, left-changed, net-changed, refused-kept}
use Rattle.engine_core.proofs.writing.written.Goals as goal

pub single-requires-clause-tables : goal.single-requires-clause-tables
single-requires-clause-tables c = stored_tables c.args.asker.now.state.now.version c.requires.sound.well_formed

pub returns-clause-free : goal.returns-clause-free
returns-clause-free c =
    IfOk-weaker c.single.result _ _
    (λ pair is. free-kept c.args.asker.now.state.now (world c.args.asker.now.state.now.opened c.args.asker.now.history.now) c.requires.stands c.args.asker.now.session.0 c.args.bound.now is.0) c.single.ensures.ok

pub returns-clause-reply : goal.returns-clause-reply
returns-clause-reply c = IfOk-weaker c.single.result _ _ (λ pair is. is.1.told) c.single.ensures.ok

pub returns-clause-net : goal.returns-clause-net
returns-clause-net c =
    IfOk-weaker c.single.result _ _ (λ pair is. net-changed c.args.asker.now.state.now.version c.requires.sound.well_formed.ordered c.args.bound.now c.requires.write pair.0 pair.1 is.1) c.single.ensures.ok

pub returns-clause-left : goal.returns-clause-left
returns-clause-left c =
    IfOk-weaker c.single.result _ _ (λ pair is. left-changed c.args.asker.now.state.now.version c.requires.sound.well_formed.ordered c.args.bound.now c.requires.write pair.0 pair.1 is.1) c.single.ensures.ok

pub returns-clause-refused : goal.returns-clause-refused
returns-clause-refused c =
    IfErr-weaker c.single.result _ _
    (λ why is other verdict. refused-kept c.args.asker.now.state.now (world c.args.asker.now.state.now.opened c.args.asker.now.history.now) c.requires.stands c.args.asker.now.session.0 c.args.bound.now verdict why (is other)) c.single.ensures.err
