use Rattle.std.proofs.Common.{sym, ◌∙◌, ap, arith}
use Rattle.std.specs.Ordering.{is_eq}
use Rattle.page_tree.proofs.LikelyLemmas.{told_behind, told_between, told_there}
use Rattle.page_tree.proofs.search.told_by.Goals as goal

-- The key stands behind all items.
pub returns-then-is_behind : goal.returns-then-is_behind
returns-then-is_behind g c =
    told_behind (g.By.KeyOf.key_of c.args.by) g.met.By.KeyOf.total c.args.key.now c.args.page.run.now c.args.page.last c.if-last.true c.if-is_behind.ensures

-- The key's item stands there.
pub returns-in-Equal : goal.returns-in-Equal
returns-in-Equal g c =
    told_there (g.By.KeyOf.key_of c.args.by) g.met.By.KeyOf.total c.args.key.now c.args.page.run.now c.args.page.last c.args.page.place c.index-run-place.result (omega (arith, c.if-place-run.false)) c.index-run-place.is
    (ap is_eq (sym c.compare.ensures ∙ c.in-Equal.is))

-- The key stands between two items.
pub returns-in-Greater : goal.returns-in-Greater
returns-in-Greater g c =
    told_between (g.By.KeyOf.key_of c.args.by) g.met.By.KeyOf.total c.args.key.now c.args.page.run.now c.args.page.last c.args.page.place c.index-run-place.result (omega (arith, c.if-place-run.false)) c.index-run-place.is
    c.if-is_behind-2.ensures (sym c.compare.ensures ∙ c.in-Greater.is)
