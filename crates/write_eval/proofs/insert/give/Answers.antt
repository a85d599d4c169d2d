use Rattle.std.proofs.Common.{rules, sym, ◌∙◌}
use Rattle.write_eval.proofs.GivenTuples.{give-free, give-taken}
use Rattle.write_eval.proofs.insert.give.Goals as goal

-- the key is taken
pub returns-then-is_taken : goal.returns-then-is_taken
returns-then-is_taken g c =
    give-taken (g.V.StoreView.db c.args.view.now).schema (g.V.StoreView.db c.args.view.now).rows c.args.number c.args.table.now c.args.given.now.entries c.args.tuple.now
    c.in_ok-key.key c.in_ok-key.ensures (sym c.is_taken.ensures ∙ c.if-is_taken.true)

-- the key is free
pub returns : goal.returns
returns g c =
    give-free (g.V.StoreView.db c.args.view.now).schema (g.V.StoreView.db c.args.view.now).rows c.args.number c.args.table.now c.args.given.now.entries c.args.tuple.now
    _ (λ left right. search rules) c.in_ok-key.key c.in_ok-row.row c.insert.new.self.entries
    c.in_ok-key.ensures (sym c.is_taken.ensures ∙ c.if-is_taken.false) c.in_ok-insert.ensures.entries (c.in_ok-row.ensures ∙ c.in_ok-copy.ensures)
