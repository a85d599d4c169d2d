use Rattle.std.proofs.Common.{◌≡◌, ◌≤◌, length, refl, sym, ap, ◌∙◌, subst, true, arith}
use Rattle.std.specs.Prelude.{Option, Some, slice_get}
use Rattle.std.proofs.lemmas.Option.{slice_get_read}
use Rattle.change_check.specs.declared.cell_name.CellName.{CellName}
use Rattle.change_check.specs.declared.refusing.Rule.TheVariants.{Reference}
use Rattle.change_check.specs.Dangling.{referring_to}
use Rattle.change_check.specs.Least.{IsFurther, is_reached, lower}
use Rattle.change_check.specs.Rule.{breaks_at, breaks_by}
use Rattle.change_check.proofs.ReferringLemmas.{caught_referring, column_referring, further_referring}
use Rattle.change_check.proofs.referring.referring_in_columns.Goals as goal

pub loop-at-preserved : goal.loop-at-preserved
loop-at-preserved g c =
    let db = g.V.StoreView.db c.args.view.now in
    let to = c.args.name.now in
    let number = c.args.table.0 in
    let definition = c.args.definition.now in
    let column = c.column-item.result in
    let found = c.loop-at.least in
    let ordered = g.met.V.StoreView.ordered c.args.view.now in
    let is : slice_get definition.columns c.loop-at.at ≡ Some column =
    subst (λ columns. slice_get columns c.loop-at.at ≡ Some column) c.items-column-items.ensures
    (slice_get_read c.items-column-items.result.now _ c.loop-at.at column refl c.loop-at-test.true c.column-item.is) in
    let next : lower (referring_to db to number c.loop-at.at column) found ≡ c.lower-least.result =
    sym (c.lower-least.ensures ∙ ap (λ (referring : Option CellName). lower referring found) {y = referring_to db to number c.loop-at.at column} c.in_ok-referring.ensures) in
    let test = breaks_at (breaks_by Reference db) db in
    record {
      further = subst (IsFurther test c.args.found) next
          (further_referring db ordered to c.requires.gone number definition c.requires.there c.loop-at.at column is c.args.found found c.loop-at.invariant.further);
      caught = λ name own within refers.
          subst (λ (least : Option CellName). is_reached least name ≡ true) next
          (caught_referring db ordered to c.requires.gone number definition c.requires.there c.loop-at.at column is found c.loop-at.invariant.caught name own within refers);
    }

pub returns-clause-caught : goal.returns-clause-caught
returns-clause-caught g c = λ name own refers.
    let db = g.V.StoreView.db c.args.view.now in
    let past : length c.args.definition.now.columns ≤ c.loop-at.at = subst (λ n. n ≤ c.loop-at.at) (ap length c.items-column-items.ensures) c.loop-at-test.false in
    let within = column_referring db c.args.name.now c.args.table.0 c.args.definition.now name c.requires.there own refers in
    c.loop-at.invariant.caught name own (omega arith) refers
