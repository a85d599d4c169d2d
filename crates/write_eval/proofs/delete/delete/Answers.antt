use Rattle.std.proofs.Common.{length, map, ap, ◌∙◌}
use Rattle.std.specs.Option.{option_copied}
use Rattle.write_eval.specs.Deletions.{deletion}
use Rattle.write_eval.proofs.Deletions.{deletes}
use Rattle.write_eval.proofs.delete.delete.Goals as goal

-- what is written says that the rows go which WHERE keeps
pub returns : goal.returns
returns g c =
    let kept = c.in_ok-kept.ensures in
    deletes (g.V.StoreView.db c.args.view.now) c.args.table c.definition_of.result.now (option_copied c.args.cond)
    (record { count = c.count.result; changes = c.in_ok-changes.changes })
    c.requires.tables c.definition_of.ensures
    (c.count.ensures ∙ ap length kept)
    (c.in_ok-changes.ensures ∙ ap (map (deletion c.args.table c.definition_of.result.now)) (c.rows.ensures ∙ kept))
