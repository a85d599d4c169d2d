use Rattle.std.proofs.Common.{◌∙◌, sym}
use Rattle.state_model.specs.Weight.{weight}
use Rattle.commit_check.proofs.WholeLemmas.{by_judged, by_rows}
use Rattle.commit_judge.proofs.RowFaults.{by_row_fault, rows_none}
use Rattle.commit_judge.proofs.judge.judge_by.Goals as goal

pub returns-in-Some : goal.returns-in-Some
returns-in-Some g c =
    let db = g.V.StoreView.db c.args.after.now in
    let is = c.in_ok-first.ensures (g.B.StoreView.db c.args.before.now) (g.met.B.StoreView.ordered c.args.before.now) (sym c.requires.schema) c.requires.leads c.requires.moves c.requires.faultless in
    by_row_fault db _ (sym is ∙ c.in-Some.is)

pub returns-in-Some-row_limit_fault : goal.returns-in-Some-row_limit_fault
returns-in-Some-row_limit_fault g c =
    let db = g.V.StoreView.db c.args.after.now in
    let is = c.in_ok-first.ensures (g.B.StoreView.db c.args.before.now) (g.met.B.StoreView.ordered c.args.before.now) (sym c.requires.schema) c.requires.leads c.requires.moves c.requires.faultless in
    let none = rows_none db (sym is ∙ c.in_default.is) in
    by_rows db none.unique none.reference none.owner _ (sym c.in-Some-row_limit_fault.ensures)

pub returns : goal.returns
returns g c =
    let db = g.V.StoreView.db c.args.after.now in
    let is = c.in_ok-first.ensures (g.B.StoreView.db c.args.before.now) (g.met.B.StoreView.ordered c.args.before.now) (sym c.requires.schema) c.requires.leads c.requires.moves c.requires.faultless in
    let none = rows_none db (sym is ∙ c.in_default.is) in
    by_judged db none.unique none.reference none.owner (sym c.in_default-row_limit_fault.ensures) _ (c.judge_weight.ensures (weight db) c.in_ok-weighs.ensures)
