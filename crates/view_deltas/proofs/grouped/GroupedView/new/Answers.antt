use Rattle.std.proofs.Common.{◌∙◌, ap, List, []}
use Rattle.own_model.specs.declared.bound.BoundItem.{BoundItem}
use Rattle.view_deltas.specs.Tally.{tally}
use Rattle.view_deltas.proofs.GroupLemmas.{groups_begin}
use Rattle.view_deltas.proofs.grouped.GroupedView.new.Goals as goal

pub returns : goal.returns
returns c = groups_begin c.args.query.now _ c.renew.new.self c.in_ok-tally.tally c.new.ensures (c.in_ok-tally.ensures ∙ ap (λ (items : List BoundItem). tally items []) c.items.ensures) c.in_ok-renew.ensures
