use Rattle.std.proofs.Common.{◌<◌, ◌++◌, length, sym, ◌∙◌, ap, arith}
use Rattle.std.specs.Option.{option_to_list}
use Rattle.std.proofs.lemmas.Bool.Decides.{nat_tests}
use Rattle.std.proofs.lemmas.Option.{get_or_from_slice_get}
use Rattle.page_model.specs.Paged.{items}
use Rattle.txn_space.specs.EntryNet.{entry_change}
use Rattle.txn_space.proofs.MadeLemmas.{made_more}
use Rattle.txn_space.proofs.net.add_changes.Goals as goal

pub loop-number-preserved : goal.loop-number-preserved
loop-number-preserved g c =
    let entries = items c.args.entries.now in
    let change = entry_change (g.V.StoreView.db c.args.base.now).schema (g.V.StoreView.db c.args.base.now).rows c.args.table in
    let within : c.loop-number.number < length entries = grind (arith, nat_tests) in
    let is = sym (get_or_from_slice_get entries c.loop-number.number c.entry_at.result.now c.entry_at.result.now c.entry_at.ensures) in
    c.in_ok-add_some.ensures
    ∙ (ap (λ made. c.loop-number.changes ++ option_to_list made) c.in_ok-change.ensures
    ∙ (ap (λ before. before ++ option_to_list (change c.entry_at.result.now)) c.loop-number.invariant
    ∙ made_more change entries c.loop-number.number c.entry_at.result.now c.args.changes.now within is))
