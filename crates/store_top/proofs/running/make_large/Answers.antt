use Rattle.std.proofs.Common.{sym, subst}
use Rattle.made_model.specs.Made.{IsMade}
use Rattle.made_model.proofs.LargeCalls.{large-few, large-numbered, large-readable, large-sessions}
use Rattle.store_top.proofs.RanMadeLemmas.{ran_made-served}
use Rattle.store_top.proofs.running.make_large.Goals as goal

pub serve_script-requires-clause-numbered : goal.serve_script-requires-clause-numbered
serve_script-requires-clause-numbered g c = rw c.into_vec.ensures (large-numbered c.args.people c.args.seed c.in-Ok.script.calls c.in-Ok.ensures)

pub serve_script-requires-clause-readable : goal.serve_script-requires-clause-readable
serve_script-requires-clause-readable g c = rw c.into_vec.ensures (large-readable c.args.people c.args.seed c.in-Ok.script.calls c.requires.people.0 c.requires.people.1 c.in-Ok.ensures)

pub serve_script-requires-clause-input : goal.serve_script-requires-clause-input
serve_script-requires-clause-input g c = rw c.into_vec.ensures (record {
  few = large-few c.args.people c.args.seed c.in-Ok.script.calls c.requires.people.1 c.in-Ok.ensures;
  sessions = large-sessions c.args.people c.args.seed c.in-Ok.script.calls c.in-Ok.ensures;
})

-- the calls are those of the large script
pub returns-in-Ok-clause-ran : goal.returns-in-Ok-clause-ran
returns-in-Ok-clause-ran g c =
    let sink = g.W.Sink in
    let made = subst (IsMade c.args.people c.args.seed) (sym c.into_vec.ensures) c.in-Ok.ensures in
    let did = c.serve_script.ensures in
    ran_made-served sink.written sink.faults sink.fails c.args.people c.args.seed c.args.sink.now c.serve_script.new.sink c.serve_script.result.history c.into_vec.result.items made
    c.serve_script.result.opened c.serve_script.result.fault did.served did.steady did.serial
