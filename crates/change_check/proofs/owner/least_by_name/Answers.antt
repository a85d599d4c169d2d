use Rattle.std.proofs.Common.{◌≡◌, sym, ap, ◌∙◌, subst}
use Rattle.std.specs.Prelude.{Option}
use Rattle.change_check.specs.declared.cell_name.CellName.{CellName}
use Rattle.change_check.specs.Least.{IsFurther, lower}
use Rattle.change_check.specs.Unowned.{IsCaught, is_of_unowned, unowned_cell}
use Rattle.change_check.proofs.UnownedCells.{caught_unowned, further_unowned}
use Rattle.change_check.proofs.owner.least_by_name.Goals as goal

pub returns-clause-further : goal.returns-clause-further
returns-clause-further g c =
    let db = g.V.StoreView.db c.args.view.now in
    let name = c.args.name.now in
    let found = c.args.found in
    let next : lower (unowned_cell db name) found ≡ c.lower.result =
    sym (c.lower.ensures ∙ ap (λ (unowned : Option CellName). lower unowned found) {y = unowned_cell db name} c.in_ok-unowned.ensures) in
    subst (IsFurther (is_of_unowned db) found) next (further_unowned db name found)

pub returns-clause-caught : goal.returns-clause-caught
returns-clause-caught g c =
    let db = g.V.StoreView.db c.args.view.now in
    let name = c.args.name.now in
    let found = c.args.found in
    let next : lower (unowned_cell db name) found ≡ c.lower.result =
    sym (c.lower.ensures ∙ ap (λ (unowned : Option CellName). lower unowned found) {y = unowned_cell db name} c.in_ok-unowned.ensures) in
    subst (IsCaught db name) next (caught_unowned db name found)
