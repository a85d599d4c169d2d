use Rattle.std.proofs.Common.{◌≡◌, subst}
use Rattle.std.specs.Prelude.{find, option_map}
use Rattle.history_model.specs.Held.{others}
use Rattle.txn_core.specs.SessionStates.{is_open, state_by}
use Rattle.txn_core.specs.Transactions.{Transactions}
use Rattle.txn_core.proofs.txns.Txns.lowest_other.Goals as goal

pub returns : goal.returns
returns c =
    subst (λ (txns : Transactions). option_map (λ other. other.0) c.lowest_other.result ≡ find (λ other. is_open (state_by txns.states other)) (others c.args.session.0)) c.self.view_is
    c.lowest_other.ensures
