use Rattle.std.proofs.lemmas.Result.{on_ok_weaker}
use Rattle.view_deltas.proofs.GroupLemmas.{groups_follow}
use Rattle.view_deltas.proofs.grouped.GroupedView.follow.Goals as goal

pub returns : goal.returns
returns c = on_ok_weaker c.count_state-2.result (λ come table. groups_follow c.args.query.now table c.args.change.now.name.key c.args.change.now.before c.args.change.now.after c.args.self.now c.count_state.new.self c.count_state-2.new.self c.in_ok-count_state.ensures come) c.count_state-2.ensures
