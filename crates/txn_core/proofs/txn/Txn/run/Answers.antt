use Rattle.std.proofs.Common.{◌||◌, ◌∙◌, ap, sym}
use Rattle.std.specs.Prelude.{not}
use Rattle.txn_core.proofs.Quiet.{quiet_after}
use Rattle.txn_core.proofs.txn.Txn.run.Goals as goal

pub returns-clause-quiet : goal.returns-clause-quiet
returns-clause-quiet g c = λ none.
    quiet_after (g.V.StoreView.db c.args.version.now) c.args.self.now.space c.run_in.new.space c.args.bound.now c.run_in.result c.args.self.now.wrote
    c.requires.quiet c.run_in.ensures.ran c.run_in.ensures.unchanged (ap (λ select. c.args.self.now.wrote || not select) (sym c.is_select.ensures) ∙ none)
