use Rattle.std.proofs.Common.{◌≡◌, List, rules}
use Rattle.std.specs.List.{All}
use Rattle.std.proofs.lemmas.List.Elements.{recursion_from_All}
use Rattle.own_base.specs.declared.value.Value.{Value}
use Rattle.query_eval.specs.declared.item_tally.ItemTally.{ItemTally}
use Rattle.query_eval.specs.Tally.{HasRoom}
use Rattle.query_eval.proofs.value_tallies.ValueTallies.shown.Goals as goal

pub loop-value-init : goal.loop-value-init
loop-value-init c =
    let all : c.into_iter-value-iterator.result ≡ c.args.self.now.groups.entries = search rules in
    record {
      rows = search rules;
      few = rw all (recursion_from_All (λ (entry : Value × List ItemTally). All (HasRoom 0) entry.1) c.args.self.now.groups.entries c.requires);
    }
