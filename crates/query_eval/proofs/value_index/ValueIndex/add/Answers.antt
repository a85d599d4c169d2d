use Rattle.std.proofs.Common.{◌∷◌, [], ◌++◌, refl, sym, ◌∙◌}
use Rattle.query_eval.proofs.KeptByValue.{found-next, new-next}
use Rattle.query_eval.proofs.value_index.ValueIndex.add.Goals as goal

-- A value that is there keeps its key.
pub returns-in-Some-clause-rows : goal.returns-in-Some-clause-rows
returns-in-Some-clause-rows c = λ rows is.
    (c.get_mut.follows.holds c.push.new.self).0
    ∙ found-next (λ rows. rows) c.args.self.now.column.0 rows c.args.self.now.rows.entries is (λ row kept. kept ++ row ∷ []) (λ rows row. refl)
    c.args.row.now c.new-value.result c.in-Some.rows.now c.push.new.self (c.new-value.ensures ∙ c.cell.ensures) c.get_mut.ensures.ordered c.in-Some.ensures.value c.in_ok-push.ensures

-- A value that isn't there is put with a list of its own.
pub returns-clause-rows : goal.returns-clause-rows
returns-clause-rows c = λ rows is.
    rw (c.in_ok-insert.ensures.entries, c.get_mut.follows.holds-at-none)
    (new-next (λ rows. rows) c.args.self.now.column.0 rows c.args.self.now.rows.entries is (λ row kept. kept ++ row ∷ []) (λ rows row. refl)
    c.args.row.now c.new-value.result c.new-rows.result c.push-2.new.self (c.new-value.ensures ∙ c.cell.ensures) (sym c.in_default.ensures.value) c.new-rows.ensures c.in_ok-push-2.ensures)
