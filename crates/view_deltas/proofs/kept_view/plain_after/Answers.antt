use Rattle.std.proofs.Common.{sym, subst}
use Rattle.own_model.specs.declared.bound.Source1.{Source1}
use Rattle.view_deltas.specs.Kept.{IsKept}
use Rattle.view_deltas.specs.declared.kept_view.KeptView.TheVariants.{Plain}
use Rattle.view_deltas.proofs.ViewLemmas.{plain_led}
use Rattle.view_deltas.proofs.kept_view.plain_after.Goals as goal

pub returns-in_ok-followed-in-Table : goal.returns-in_ok-followed-in-Table
returns-in_ok-followed-in-Table g c = λ here stored lead kept.
    let before = g.V.StoreView.db c.args.before.now in
    let after = g.N.StoreView.db c.args.after.now in
    let query = c.args.query.now in
    subst (λ (source : Source1). IsKept after query source (Plain c.in_ok-followed-in-Table.followed)) (sym c.in-Table.is)
    (plain_led before after (g.met.V.StoreView.ordered c.args.before.now) (g.met.N.StoreView.ordered c.args.after.now) c.requires.same c.args.changes.now query c.in-Table.table c.args.entries.now c.in_ok-followed-in-Table.followed
    c.in_ok-followed-in-Table.ensures here stored lead (subst (λ (source : Source1). IsKept before query source (Plain c.args.entries.now)) c.in-Table.is kept))
