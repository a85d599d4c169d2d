use Rattle.std.proofs.Common.{refl, sym, ap, ◌∙◌}
use Rattle.own_model.specs.declared.refusal.Refusal.TheVariants.{Duplicate}
use Rattle.own_model.specs.declared.reply.Reply.TheVariants.{Refused}
use Rattle.write_eval.specs.Insertions.{given_tuples}
use Rattle.write_eval.proofs.Insertions.{given_come, given_taken, inserts, is_duplicate}
use Rattle.write_eval.proofs.insert.insert.Goals as goal

-- the tuples come
pub returns-in-Ok : goal.returns-in-Ok
returns-in-Ok g c =
    let db = g.V.StoreView.db c.args.view.now in
    let came = given_come c.args.number (given_tuples db.schema db.rows c.args.number c.definition_of-table.result.now c.args.tuples.now) c.in-Ok.changes (sym c.in-Ok.is ∙ c.in_ok-changes.ensures) in
    inserts db c.args.number c.definition_of-table.result.now c.args.tuples.now
    c.requires.tables.rising c.definition_of-table.ensures (record { count = _; changes = c.in-Ok.changes }) came.0
    refl came.2 came.1

-- a key is taken
pub returns-in_ok-table-in-Err : goal.returns-in_ok-table-in-Err
returns-in_ok-table-in-Err g c =
    let db = g.V.StoreView.db c.args.view.now in
    is_duplicate db c.args.number c.definition_of-table.result.now c.args.tuples.now
    c.requires.tables.rising c.definition_of-table.ensures c.in-Err.key
    (given_taken c.args.number (given_tuples db.schema db.rows c.args.number c.definition_of-table.result.now c.args.tuples.now) c.in-Err.key (sym c.in-Err.is ∙ c.in_ok-changes.ensures))
    ∙ ap (λ name. Refused (Duplicate name c.in-Err.key)) (sym c.in_ok-table-in-Err.ensures)
