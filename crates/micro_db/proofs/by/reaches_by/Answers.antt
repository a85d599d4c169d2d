use Rattle.std.proofs.Common.{sym, ◌∙◌, subst, rules}
use Rattle.micro_db.specs.Uppers.{AreUppersAlong}
use Rattle.micro_db.proofs.ByLemmas.{reaches-by, reaches-by-none}
use Rattle.micro_db.proofs.by.reaches_by.Goals as goal

pub returns : goal.returns
returns g c =
    c.some_lead_on.ensures ∙ reaches-by (g.N.StoreView.db c.args.after.now) (g.met.N.StoreView.ordered c.args.after.now) c.requires.owner c.args.subject.now.0 c.args.name.now c.args.edge.now c.requires.among c.items.result.now
    (subst (AreUppersAlong (g.N.StoreView.db c.args.after.now) c.args.name.now c.args.edge.now) (sym c.items.ensures) c.in_ok-uppers.ensures)

pub returns-then-ne : goal.returns-then-ne
returns-then-ne g c =
    reaches-by-none (g.N.StoreView.db c.args.after.now) c.requires.owner c.args.subject.now.0 c.args.name.now c.args.edge.now c.requires.among (search rules)
