use Rattle.std.proofs.Common.{map, length, sym, ap, ◌∙◌}
use Rattle.std.specs.Option.{option_copied}
use Rattle.run_model.specs.Update.{update_faults}
use Rattle.state_model.specs.Fault.{first_of}
use Rattle.write_eval.specs.Updates.{replacement}
use Rattle.write_eval.proofs.Replacements.{is_refused, updates}
use Rattle.write_eval.proofs.update.update.Goals as goal

-- the first fault
pub returns-in-Some : goal.returns-in-Some
returns-in-Some g c =
    let table = c.definition_of-table.result.now in
    is_refused (g.V.StoreView.db c.args.view.now) c.args.number table c.args.sets.now (option_copied c.args.cond)
    c.requires.tables.rising c.definition_of-table.ensures c.in-Some.why
    (sym c.in-Some.is ∙ (c.in_ok-why.ensures ∙ ap (λ rows. first_of (update_faults table c.args.sets.now rows)) (c.rows.ensures ∙ c.in_ok-kept.ensures)))

-- no fault
pub returns : goal.returns
returns g c =
    let table = c.definition_of-table.result.now in
    updates (g.V.StoreView.db c.args.view.now) c.args.number table c.args.sets.now (option_copied c.args.cond)
    c.requires.tables.rising c.definition_of-table.ensures (record { count = c.count.result; changes = c.in_ok-changes-in-None.changes }) c.requires.spare
    (sym c.in-None.is ∙ (c.in_ok-why.ensures ∙ ap (λ rows. first_of (update_faults table c.args.sets.now rows)) (c.rows.ensures ∙ c.in_ok-kept.ensures)))
    (c.count.ensures ∙ ap length c.in_ok-kept.ensures)
    (c.in_ok-changes-in-None.ensures ∙ ap (map (replacement c.args.number table c.args.sets.now)) (c.rows-in-None.ensures ∙ c.in_ok-kept.ensures))
