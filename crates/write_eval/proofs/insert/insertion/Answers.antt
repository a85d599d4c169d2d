use Rattle.std.proofs.Common.{Ok, ap, sym, ◌∙◌, ◌++◌, ◌∷◌, []}
use Rattle.write_eval.proofs.OneTuple.{one_free, one_taken}
use Rattle.write_eval.specs.Insertions.{insertion}
use Rattle.write_eval.proofs.insert.insertion.Goals as goal

-- a row has its key
pub returns-then-is_there : goal.returns-then-is_there
returns-then-is_there g c =
    let db = g.V.StoreView.db c.args.view.now in
    one_taken db.schema db.rows c.args.number c.args.table.now c.args.tuple.now c.in_ok-key.key c.in_ok-key.ensures (sym c.is_there.ensures ∙ c.if-is_there.true)

-- no row has it
pub returns : goal.returns
returns g c =
    let db = g.V.StoreView.db c.args.view.now in
    let free = sym c.is_there.ensures ∙ c.if-is_there.false in
    ap Ok (c.in_ok-add.ensures.added ∙ ap (λ before. before ++ insertion c.args.number (c.in_ok-key.key, c.in_ok-row.row) ∷ []) c.new-changes.ensures)
    ∙ one_free db.schema db.rows c.args.number c.args.table.now c.args.tuple.now c.in_ok-key.key c.in_ok-row.row c.in_ok-key.ensures (c.in_ok-row.ensures ∙ c.in_ok-copy.ensures) free
