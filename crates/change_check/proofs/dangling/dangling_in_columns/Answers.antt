use Rattle.std.proofs.Common.{◌≡◌, ◌≤◌, length, refl, sym, ap, ◌∙◌, subst, true, arith}
use Rattle.std.specs.Prelude.{Option, Some, slice_get}
use Rattle.std.proofs.lemmas.Option.{slice_get_read}
use Rattle.commit_check.proofs.ReferenceLemmas.{refers-within}
use Rattle.change_check.specs.declared.cell_name.CellName.{CellName}
use Rattle.change_check.specs.declared.refusing.Rule.TheVariants.{Reference}
use Rattle.change_check.specs.Dangling.{dangling_by}
use Rattle.change_check.specs.Least.{IsFurther, is_reached, lower}
use Rattle.change_check.specs.Rule.{breaks_at, breaks_by}
use Rattle.change_check.proofs.DanglingLemmas.{caught_dangling, column_within, further_dangling}
use Rattle.change_check.proofs.dangling.dangling_in_columns.Goals as goal

pub dangling_by-requires : goal.dangling_by-requires
dangling_by-requires g c = λ link refers.
    let column = c.column-item.result in
    let is : slice_get c.args.definition.now.columns c.loop-at.at ≡ Some column =
    subst (λ columns. slice_get columns c.loop-at.at ≡ Some column) c.items-column-items.ensures
    (slice_get_read c.items-column-items.result.now _ c.loop-at.at column refl c.loop-at-test.true c.column-item.is) in
    refers-within (g.V.StoreView.db c.args.view.now).schema c.args.definition.now c.loop-at.at column link c.requires.refer is refers

pub loop-at-preserved : goal.loop-at-preserved
loop-at-preserved g c =
    let db = g.V.StoreView.db c.args.view.now in
    let change = c.args.change.now in
    let definition = c.args.definition.now in
    let column = c.column-item.result in
    let found = c.loop-at.least in
    let is : slice_get definition.columns c.loop-at.at ≡ Some column =
    subst (λ columns. slice_get columns c.loop-at.at ≡ Some column) c.items-column-items.ensures
    (slice_get_read c.items-column-items.result.now _ c.loop-at.at column refl c.loop-at-test.true c.column-item.is) in
    let next : lower (dangling_by db change c.loop-at.at column) found ≡ c.lower-least.result =
    sym (c.lower-least.ensures ∙ ap (λ (dangling : Option CellName). lower dangling found) {y = dangling_by db change c.loop-at.at column} c.in_ok-dangling.ensures) in
    let test = breaks_at (breaks_by Reference db) db in
    record {
      further = subst (IsFurther test c.args.found) next
          (further_dangling db change c.requires.told definition c.requires.there c.loop-at.at column is c.args.found found c.loop-at.invariant.further);
      caught = λ name within came breaks.
          subst (λ (least : Option CellName). is_reached least name ≡ true) next
          (caught_dangling db change c.requires.told definition c.requires.there c.loop-at.at column is found c.loop-at.invariant.caught name within came breaks);
    }

pub returns-clause-caught : goal.returns-clause-caught
returns-clause-caught g c = λ name came breaks.
    let db = g.V.StoreView.db c.args.view.now in
    let past : length c.args.definition.now.columns ≤ c.loop-at.at = subst (λ n. n ≤ c.loop-at.at) (ap length c.items-column-items.ensures) c.loop-at-test.false in
    let within = column_within db c.args.change.now c.args.definition.now name c.requires.there came breaks in
    c.loop-at.invariant.caught name (omega arith) came breaks
